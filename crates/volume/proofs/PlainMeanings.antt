-- The tests of numbers and records, and the views of requests and answers, mean what specs/Meanings.antt says, part by part. Assumes nothing.
use Prim.Native.Nat.{ℕ, ◌≤◌}
use native.Mathlib.Omega.{arith}
use mathlib.Core.Path.{◌≡◌, refl, sym, ap, ap₂}
use mathlib.Core.Logic.Iff
use mathlib.Core.Logic.{◌↔◌}
use mathlib.Core.Bool.{true, false, ◌||◌}
use mathlib.Core.Option.{some}
use lib.Dec.{eqb}
use borrow.Author.Tests.{ltb-false, eqb-false, le-ltb}
use Rattle.lists.specs.Bytes.{zeros}
use Rattle.lists.proofs.Tests.{or_left, or_right, eqb_other}
use Rattle.lists.proofs.Slots.{by_test}
use Rattle.lists.proofs.Searches.{equal, at_most, not_denied, both, either}
use Rattle.policy.specs.Policies.{policy_bytes}
use Rattle.volume.specs.Request.{ShownEntry, Answer, refused, done, created, at, policy_is, shown, refusal_in, shown_in}
use Rattle.volume.specs.Step.{lent}
use Rattle.volume.specs.Checks.{is_policy_refused, is_bad_kind, is_bad_key_length, is_nonce_needed}
use Rattle.volume.specs.Sound.{KeyLength}
use Rattle.volume.specs.PolicyClause.{WouldLack}
use Rattle.volume.specs.Meanings.{AnswersStand, ViewsMean, PlainMeanings}
use Rattle.volume.specs.declared.Inode.{Inode}
use Rattle.volume.proofs.Kept.{refusal≢none}
use Rattle.volume.proofs.SoundPolicy.{lacks_policy, not_lacking}

pub key_length : (n : ℕ) → (is_bad_key_length n ≡ false) ↔ KeyLength n
unfolding is_bad_key_length
key_length n = not_denied _ (either _ (equal n 16) _ (either _ (equal n 32) _ (either _ (equal n 48) _ (equal n 64))))

kind : (k : ℕ) → (is_bad_kind k ≡ false) ↔ ((1 ≤ k) × (k ≤ 4))
unfolding is_bad_kind
kind k = (
  λ h.
      let some = eqb-false k 0 (or_left (eqb k 0) _ h) in
      let few = ltb-false 4 k (or_right (eqb k 0) _ h) in
      (omega arith, omega arith),
  λ w. let low : 1 ≤ k = w.0 in ap₂ ◌||◌ (eqb_other k 0 (λ z. absurd (omega arith))) (le-ltb 4 k w.1),
)

nonce_needed : (dir : Inode) (k : ℕ) → (is_nonce_needed dir k ≡ true) ↔ ((dir.encrypted ≡ true) × (k ≤ 3))
unfolding is_nonce_needed
nonce_needed dir k = both dir.encrypted Iff.rfl _ (at_most k 3)

pub policy_refused : (dir node : Inode) → (is_policy_refused dir node ≡ true) ↔ WouldLack dir node
policy_refused dir node = (lacks_policy dir node, λ w. by_test (is_policy_refused dir node) (λ t. t) (λ f. absurd (not_lacking dir node f w)))

answers : AnswersStand
answers = record {
  done_is = refl;
  done_refused = λ e. refl;
  created_is = λ i e. refl;
  create_refused = λ e. refl;
  entry_is = λ e. refl;
  entry_refused = λ e. refl;
  policy_is_lem = λ b. refl;
  policy_refused = λ e b. refl;
  forms = (refl, refl, refl);
  shown_is = λ s. refl;
  show_refused = λ e. refl;
}

refusal : (a : Answer) (n : ℕ) → refusal_in a ≡ some n → a ≡ refused n
refusal (refused m) n h = cc
refusal done n h = absurd (refusal≢none n (sym h))
refusal (created i e) n h = absurd (refusal≢none n (sym h))
refusal (at e) n h = absurd (refusal≢none n (sym h))
refusal (policy_is p) n h = absurd (refusal≢none n (sym h))
refusal (shown s) n h = absurd (refusal≢none n (sym h))

shown_entry : (a : Answer) (s : ShownEntry) → shown_in a ≡ some s → a ≡ shown s
shown_entry (refused m) s h = cc
shown_entry done s h = cc
shown_entry (created i e) s h = cc
shown_entry (at e) s h = cc
shown_entry (policy_is p) s h = cc
shown_entry (shown t) s h = cc

views : ViewsMean
unfolding lent
views = record {
  key_lent = λ d k. refl;
  name_lent = λ e b. refl;
  block_sealed = λ i n b. refl;
  block_opened = λ i n b. refl;
  key_bytes_lem = λ d k. refl;
  name_bytes_lem = λ e b. refl;
  sealed_bytes = λ i n b. refl;
  opened_bytes = λ i n b. refl;
  refusal = λ a n. (refusal a n, ap refusal_in);
  shown_entry = λ a s. (shown_entry a s, ap shown_in);
}

pub plain_meanings : PlainMeanings
unfolding zeros policy_bytes
plain_meanings = record {
  answers = answers;
  views = views;
  key_length = key_length;
  kind = kind;
  nonce_needed = nonce_needed;
  policy_refused = policy_refused;
  free_key = (refl, refl, refl);
  free_inode_lem = (refl, refl, refl, refl);
  free_entry_lem = (refl, refl, refl, refl);
}
