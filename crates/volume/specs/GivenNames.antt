-- Given names, document 01: "these are read from either list and the answers of its run. A place's given name is the one in the latest create or link that
-- answered this place or, if later, in the latest rename of it that was done. Exchange doesn't change it." Assumes nothing.
use Rattle.std.specs.Prelude.{ℕ, cond, List, [], ◌∷◌, eqb}
use Rattle.std.proofs.Math.Option.{Option, some, none}
use Rattle.lists.specs.Bytes.{Bytes}
use Rattle.volume.specs.Request.{Request, add_key, remove_key, set_policy, get_policy, create, link, rename, exchange, remove, find, show, seal, unseal, Answer, refused, done, created, at, policy_is, shown, refusal_in}
use Rattle.volume.specs.Run.{Moment}
use Rattle.ids.specs.declared.EntryNumber.{EntryNumber}

-- for each entry the name that it was given, if it was given one
abbrev pub Names : Type 0
Names = ℕ → Option Bytes

-- what a request names once it is done: nothing, the entry that it answers, or an entry of its own
pub data Naming : Type 0 where
  nothing : Naming
  answered : (name : Bytes) → Naming
  entry : (at : EntryNumber) (name : Bytes) → Naming

unfoldable pub naming : Request → Naming
naming (add_key d k) = nothing
naming (remove_key d) = nothing
naming (set_policy i p x) = nothing
naming (get_policy i) = nothing
naming (create p kind n x) = answered n
naming (link i p n) = answered n
naming (rename e p n) = entry e n
naming (exchange a b) = nothing
naming (remove e) = nothing
naming (find p n) = nothing
naming (show e b) = nothing
naming (seal i n b) = nothing
naming (unseal i n b) = nothing

abbrev pub only_at : EntryNumber → Bytes → Names
only_at e' n e = cond (eqb e e'.0) (some n) none

unfoldable pub named : Naming → Option EntryNumber → Names
named nothing o e = none
named (answered n) none e = none
named (answered n) (some e') e = only_at e' n e
named (entry e' n) o e = only_at e' n e

-- the entry that a request answered
abbrev pub answered_in : Answer → Option EntryNumber
answered_in (refused n) = none
answered_in done = none
answered_in (created i e) = some e
answered_in (at e) = some e
answered_in (policy_is p) = none
answered_in (shown s) = none

-- a request that was refused names nothing
abbrev pub unless_refused : Option ℕ → Option Bytes → Option Bytes
unless_refused (some number) n = none
unless_refused none n = n

-- the name that a request with this answer gives the entry e, if it gives it one
unfoldable pub named_by : Request → Answer → Names
named_by r a e = unless_refused (refusal_in a) (named (naming r) (answered_in a) e)

abbrev pub later : Option Bytes → Option Bytes → Option Bytes
later (some n) earlier = some n
later none earlier = earlier

-- the given names after one more request
abbrev pub after : Names → Request → Answer → Names
after g r a e = later (named_by r a e) (g e)

unfoldable pub names_from : Names → List Moment → Names
names_from g [] = g
names_from g (m ∷ ms) = names_from (after g m.request m.answer) ms

-- the names that the requests so far, oldest first, gave
abbrev pub given : List Moment → Names
given past = names_from (λ e. none) past
