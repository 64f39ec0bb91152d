-- `climb`: the goals that the loop leaves, from the invariant of Invariants.antt. Assumes nothing.
use mathlib.Core.Path.{refl, sym, ◌∙◌, ap}
use native.Mathlib.Omega.{arith}
use Rattle.volume.specs.Lookup.{climb_from}
use Rattle.lookup.proofs.Ascent.{met_moved, met_root, met_neither, met_later}
use borrow.Author.Rules.{rules}
use Rattle.lookup.proofs.climb.climb.Goals as goal

pub loop-moved-init : goal.loop-moved-init
loop-moved-init c = (search rules, refl)

pub loop-moved-preserved : goal.loop-moved-preserved
loop-moved-preserved c =
    let l = c.loop-moved in (
      omega arith,
      l.invariant.1
          ∙ met_later _ _ _ (sym c.eq.ensures ∙ c.if-eq.false) c.if-at-eq0.false l.left c.if-left-eq0.false
          ∙ ap (climb_from _ _ _) (sym c.parent_of-at.ensures),
    )

pub returns-then-eq : goal.returns-then-eq
returns-then-eq c =
    let l = c.loop-moved in
    sym (l.invariant.1 ∙ met_moved _ _ _ l.left (sym c.eq.ensures ∙ c.if-eq.true))

pub returns-then-at-eq0 : goal.returns-then-at-eq0
returns-then-at-eq0 c =
    let l = c.loop-moved in
    sym (l.invariant.1 ∙ met_root _ _ _ (sym c.eq.ensures ∙ c.if-eq.false) l.left c.if-at-eq0.true)

pub returns-then-left-eq0 : goal.returns-then-left-eq0
returns-then-left-eq0 c =
    let l = c.loop-moved in
    sym (l.invariant.1 ∙ met_neither _ _ _ (sym c.eq.ensures ∙ c.if-eq.false) c.if-at-eq0.false l.left c.if-left-eq0.true)
