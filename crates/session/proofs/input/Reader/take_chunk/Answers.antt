-- `take_chunk`: the goals that the search leaves, from the invariant of Invariants.antt. Assumes nothing.
use native.Mathlib.Omega.{arith}
use mathlib.Core.Path.{◌≡◌, refl, sym, ◌∙◌, ap, subst}
use mathlib.Core.List.{[], ◌++◌, append-nil, append_assoc}
use lib.ListN.{take, drop, length-drop}
use Rattle.std.proofs.lemmas.List.{take-append-drop, nil_from_length}
use borrow.Author.Rules.{part_to_end}
use borrow.Author.Tests.{eqb-true, eqb-false}
use Rattle.lists.specs.Bytes.{Bytes}
use Rattle.session.specs.Input.{Feeds}
use Rattle.session.proofs.Feeding.{feeds_none, feeds_more}
use Rattle.session.proofs.input.Reader.take_chunk.Goals as goal

pub loop-rest-init : goal.loop-rest-init
loop-rest-init g c = ([], refl, feeds_none c.args.self.now)

pub loop-rest-smaller : goal.loop-rest-smaller
loop-rest-smaller g c =
    let rest = c.loop-rest.rest.now in
    let taken = c.next_answer-turn.result.taken in
    rw part_to_end (omega (arith, length-drop taken rest, c.next_answer-turn.ensures.taken_value, eqb-false _ _ (sym c.is_empty.ensures ∙ c.loop-rest-test.true)))

pub loop-rest-preserved : goal.loop-rest-preserved
loop-rest-preserved g c =
    let l = c.loop-rest in
    let turn = c.next_answer-turn in
    let rest = l.rest.now in
    let n = turn.result.taken in (
      l.invariant.0 ++ take n rest,
      rw part_to_end (l.invariant.1 ∙ ap (λ (t : Bytes). l.invariant.0 ++ t) (sym (take-append-drop n rest)) ∙ sym (append_assoc l.invariant.0 (take n rest) (drop n rest))),
      feeds_more c.args.self.now l.self turn.new.self l.invariant.0 (take n rest) l.invariant.2 turn.ensures.feeds,
    )

pub returns : goal.returns
returns g c =
    let l = c.loop-rest in
    let none : l.rest.now ≡ [] = nil_from_length l.rest.now (eqb-true _ _ (sym c.is_empty.ensures ∙ c.loop-rest-test.false)) in
    let all : l.invariant.0 ≡ c.args.chunk.now = sym (l.invariant.1 ∙ ap (λ (t : Bytes). l.invariant.0 ++ t) none ∙ append-nil l.invariant.0) in
    subst (λ (t : Bytes). Feeds c.args.self.now t l.self) all l.invariant.2
