-- What each line of the tables of checks lets pass, as a plain predicate, in both directions: a line `test ⇒ e` is passed where its test fails, and so where what the
-- test means does not hold. A full table's search ends past its last slot, so that one with room ends at a free one. Assumes nothing.
use Prim.Native.Nat.{ℕ, ◌≤◌, ◌<◌}
use native.Mathlib.Omega.{arith}
use mathlib.Core.Path.{◌≡◌, refl, sym, ◌∙◌, ap}
use mathlib.Core.Logic.{◌≢◌, ◌↔◌}
use mathlib.Core.Bool.{Bool, true, false, cond, not, ◌&&◌, true≢false, false≢true}
use lib.ListN.{get_or}
use lib.Dec.{eqb, leb, ltb}
use borrow.Author.Tests.{eqb-false, ne_eqb, leb-false, lt-leb, ltb-true, lt-ltb, ltb-false, le-ltb}
use Rattle.lists.specs.Bytes.{Bytes}
use Rattle.lists.proofs.Tests.{not-false}
use Rattle.lists.proofs.Predicates.{not_of_true}
use Rattle.lists.proofs.Slots.{by_test}
use Rattle.lists.proofs.Searches.{fails}
use Rattle.errno.proofs.ChainMeanings.{is_fine_means}
use Rattle.errno.specs.Refusals.{Checked, fine, refuse, is_fine, check_of}
use Rattle.errno.specs.declared.Errno.TheVariants.{EUCLEAN}
use Rattle.policy.specs.Policies.{policy_at, policy_check, read_policy, policy_answer, answered, taken, policy_in}
use Rattle.policy.specs.Meanings.{ValidPolicy, PolicyIn}
use Rattle.policy.specs.declared.Policy.{Policy}
use Rattle.policy.proofs.Meanings.{policy_taken_lem}
use Rattle.fscrypt.specs.Names.{before_nul, padding_check, packed, read_padded}
use Rattle.volume.specs.Checks.{is_policy_refused}
use Rattle.volume.specs.Sound.{MayHold}
use Rattle.volume.specs.Meanings.{Least}
use Rattle.volume.specs.declared.Inode.{Inode}
use Rattle.volume.proofs.SoundPolicy.{may_hold, lacks_policy}
use Rattle.std.specs.declared.result.Result.TheVariants.{Ok, Err}
use Rattle.errno.specs.declared.Errno.{Errno}
use Rattle.fscrypt.specs.declared.Name.{Name}
use Rattle.std.specs.declared.result.Result.{Result}

-- ---- tests that fail

pub negated : (t : Bool) → (not t ≡ false) ↔ (t ≡ true)
negated t = (not-false, not_of_true t)

pub differ : (a b : ℕ) → (eqb a b ≡ false) ↔ (a ≢ b)
differ a b = (eqb-false a b, ne_eqb a b)

pub at_least : (a b : ℕ) → (ltb a b ≡ false) ↔ (b ≤ a)
at_least a b = (ltb-false a b, le-ltb a b)

-- of a search that ends before the table's end
pub found : {P : Type 0} (at size : ℕ) → ((ltb at size ≡ true) ↔ P) → (leb size at ≡ false) ↔ P
found at size f = (λ h. f.0 (lt-ltb at size (leb-false size at h)), λ w. lt-leb size at (ltb-true at size (f.1 w)))

-- a test that comes after another is made where the other held
pub after : (t u : Bool) → ((t && u) ≡ false) ↔ (t ≡ true → u ≡ false)
after true u = (λ h e. h, λ f. f refl)
after false u = (λ h e. absurd (false≢true e), λ f. refl)

-- one of two tables
pub choice : (t : Bool) (a b : Checked) → (cond t a b ≡ fine) ↔ ((t ≡ true → a ≡ fine) × (t ≡ false → b ≡ fine))
choice true a b = (λ h. (λ e. h, λ e. absurd (true≢false e)), λ p. p.0 refl)
choice false a b = (λ h. (λ e. absurd (false≢true e), λ e. h), λ p. p.1 refl)

-- ---- room

-- of a search for the lowest that is free: where it ends before the table's end, there is room, and the other way round
pub room : {Free : ℕ → Type 0} (size at : ℕ) → ((k : ℕ) → k < size → (at ≡ k) ↔ Least Free k) → ((leb size at ≡ true) ↔ ((k : ℕ) → k < size → Free k → ⊥))
    → (leb size at ≡ false) ↔ ((k : ℕ) × (k < size) × Free k)
room {Free} size at lowest full = (
  λ h. let small = leb-false size at h in (at, small, ((lowest at small).0 refl).holds),
  λ w. (fails (leb size at) full).1 (λ none. none w.0 w.1 w.2),
)

-- ---- policies

pub may_hold_is : (dir node : Inode) → (is_policy_refused dir node ≡ false) ↔ MayHold dir node
may_hold_is dir node = (
  may_hold dir node,
  λ h. by_test (is_policy_refused dir node) (λ t. let w = lacks_policy dir node t in absurd (w.lacks (h w.is_encrypted w.not_special))) (λ f. f),
)

-- bytes that pass are those of a valid policy, which is the one that is read
pub policy_read : (b : Bytes) (p : Policy) → ((policy_check b ≡ fine) × (policy_in (read_policy b) ≡ p)) ↔ (PolicyIn b p × ValidPolicy p)
unfolding policy_answer read_policy
policy_read b p = (
  λ h. (policy_taken_lem b p).0 ((answer (policy_check b) (policy_at (get_or b 0 0) b)).1 (h.0, sym (value h.0) ∙ h.1)),
  λ w. let a = (answer (policy_check b) (policy_at (get_or b 0 0) b)).0 ((policy_taken_lem b p).1 w) in (a.0, value a.0 ∙ a.1),
)
  where
    value : policy_check b ≡ fine → policy_in (read_policy b) ≡ policy_at (get_or b 0 0) b
    value h = rw h

    answer : (c : Checked) (x : Policy) → (answered c x ≡ taken p) ↔ ((c ≡ fine) × (x ≡ p))
    answer (Ok _) x = (λ h. (refl, cc), λ q. ap taken q.1)
    answer (Err e) x = (λ h. absurd (let z : ◌≡◌ {A = ℕ} 0 1 = cc in omega arith), λ q. absurd (let r = q.0 in let z : ◌≡◌ {A = ℕ} 0 1 = cc in omega arith))

-- ---- names

-- what was read passed where the padding did
pub name_read : (flags : ℕ) (b : Bytes) → (is_fine (check_of (read_padded flags b)) ≡ true) ↔ (padding_check flags b ≡ fine)
unfolding read_padded
name_read flags b = go (padding_check flags b)
  where
    go : (c : Checked)
        → (is_fine (check_of (cond {A = Result Name Errno} (is_fine c) (Ok (packed (before_nul b))) (Err EUCLEAN))) ≡ true)
        ↔ (c ≡ fine)
    go (Ok _) = is_fine_means fine
    go (Err e) = is_fine_means (refuse e)
