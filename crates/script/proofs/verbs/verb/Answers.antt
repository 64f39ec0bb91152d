-- `verb`: the code's table has the definition's rows, each word behind a reference. Assumes nothing.
use Rattle.std.proofs.Common.{rules, tests, ◌≡◌, refl, ap, ◌∙◌, List, [], ◌∷◌, Bool, true, false, cond, map, Bor, Option, Some, option_map, find}
use Rattle.std.proofs.lemmas.Iterator.Search.{find_from_yields_List}
use Rattle.std.proofs.lemmas.Iterator.{YieldsList-from_slice}
use Rattle.std.specs.Slice.Iter.{iter_rest}
use Rattle.lists.specs.Bytes.{Bytes, same}
use Rattle.lists.proofs.SameBytes.{same_pointwise}
use Rattle.script.specs.Commands.{verbs, verb_of}
use Rattle.script.specs.declared.Verb.{Verb}
use Rattle.script.proofs.verbs.verb.Goals as goal

abbrev Row : Type 0
Row = Bor Bytes × Verb

-- a row as the definition has it
abbrev shown : Row → Bytes × Verb
shown row = (row.0.now, row.1)

-- the row that is found, and its request
found_shown : (w : Bytes) (rows : List Row)
    → option_map (λ (row : Row). row.1) (find (λ (row : Row). same w row.0.now) rows) ≡ option_map (λ (row : Bytes × Verb). row.1) (find (λ (row : Bytes × Verb). same w row.0) (map shown rows))
found_shown w [] = refl
found_shown w (row ∷ rows) = by_case (same w row.0.now) _ _ (found_shown w rows)
  where
    by_case : (t : Bool) (a : Option Row) (b : Option (Bytes × Verb)) → option_map (λ (r : Row). r.1) a ≡ option_map (λ (r : Bytes × Verb). r.1) b
        → option_map (λ (r : Row). r.1) (cond t (Some row) a) ≡ option_map (λ (r : Bytes × Verb). r.1) (cond t (Some (shown row)) b)
    by_case true a b e = refl
    by_case false a b e = e

pub returns : goal.returns
unfolding verb_of
returns c =
    let w = c.args.w.now in
    let found : option_map (λ x. x.now) c.find.result ≡ find (λ (row : Row). same w row.0.now) (iter_rest c.iter.result) =
    find_from_yields_List _ _ _ c.find.result c.find.ensures.ran (YieldsList-from_slice _ refl) (λ x b q k. search (rules, tests, same_pointwise)) in
    let mapped : c.map.result ≡ option_map (λ (row : Row). row.1) (option_map (λ x. x.now) c.find.result) = search (rules, tests) in
    let rows : map shown (iter_rest c.iter.result) ≡ verbs = search (rules, tests) in
    mapped ∙ ap (option_map (λ (row : Row). row.1)) found ∙ found_shown w (iter_rest c.iter.result) ∙ ap (λ (rows : List (Bytes × Verb)). option_map (λ (row : Bytes × Verb). row.1) (find (λ (row : Bytes × Verb). same w row.0) rows)) rows
