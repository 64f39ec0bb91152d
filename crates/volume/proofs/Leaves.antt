-- What a request leaves as it was: by cases of its check, a refusal settles to what was there, and the effects of show, seal, open, find and get policy keep the
-- volume; a name laid over a buffer leaves what stands past it. Assumes nothing.
use Prim.Native.Nat.{ℕ}
use mathlib.Core.Path.{◌≡◌, refl, sym, ◌∙◌, ap}
use mathlib.Core.List.{◌++◌}
use lib.ListN.{length, drop}
use lib.Seq.{drop-append_seam}
use Rattle.lists.specs.Bytes.{Bytes}
use Rattle.errno.specs.Refusals.{number}
use Rattle.errno.specs.declared.Errno.{Errno}
use Rattle.fscrypt.specs.Cipher.{Cipher}
use Rattle.volume.specs.Volume.{name_of}
use Rattle.volume.specs.Request.{Request, get_policy, find, show, seal, unseal, refused, shown, Outcome, outcome, ShownEntry}
use Rattle.volume.specs.Lookup.{inode_at, entry_at}
use Rattle.volume.specs.DirectoryNames.{shown_name}
use Rattle.volume.specs.Step.{lent, effect, step}
use Rattle.volume.specs.Leaves.{Refuses, Leaves}
use Rattle.ids.specs.declared.EntryNumber.{EntryNumber}
use Rattle.volume.specs.declared.Volume.{Volume}
use Rattle.volume.proofs.Kept.{step_has, volume_has, was_done}
use Rattle.volume.proofs.Touching.{never_refused}

module _ (C : Cipher) (v : Volume) where
  -- a refusal comes of the check alone, and settles to what was there
  numbered : (r : Request) (n : ℕ) → Refuses C v r n → (e : Errno) × (n ≡ number e)
  numbered r n = step_has C v r (λ (o : Outcome). o.answer ≡ refused n → (e : Errno) × (n ≡ number e)) (λ e h. (e, cc)) (λ k h. absurd (never_refused C v r n h))

  refused_all : (r : Request) (n : ℕ) → Refuses C v r n → step C v r ≡ outcome (refused n) (lent r) v
  refused_all r n =
      step_has C v r (λ (o : Outcome). o.answer ≡ refused n → o ≡ outcome (refused n) (lent r) v) (λ e h. cc) (λ k h. absurd (never_refused C v r n h))

  keeps : (r : Request) → (effect C v r).volume ≡ v → (step C v r).volume ≡ v
  keeps r e = volume_has C v r (λ (w : Volume). w ≡ v) refl (λ k. e)

  -- a buffer with a name laid over its start, past the name
  past_the_name : (e : EntryNumber) (b : Bytes) (s : ShownEntry) → (step C v (show e b)).answer ≡ shown s
      → drop s.len (step C v (show e b)).buffer ≡ drop s.len b
  unfolding effect
  past_the_name e b s h =
      let d = was_done C v (show e b) (shown s) refl h in
      let n = shown_name C v (inode_at v (entry_at v e).parent) e (name_of (entry_at v e)) in
      let l : length n ≡ s.len = cc (ap (λ (o : Outcome). o.answer) (sym d) ∙ h) in
      ap (λ (o : Outcome). drop s.len o.buffer) d
      ∙ ap (λ (k : ℕ). drop k (n ++ drop (length n) b)) (sym l)
      ∙ drop-append_seam n (drop (length n) b)
      ∙ ap (λ (k : ℕ). drop k b) l

pub leaves : (C : Cipher) → Leaves C
unfolding lent effect
leaves C = record {
  numbered = λ v. numbered C v;
  refused_all = λ v. refused_all C v;
  past_the_name = λ v. past_the_name C v;
  getting = λ v i. keeps C v (get_policy i) refl;
  finding = λ v p n. keeps C v (find p n) refl;
  showing = λ v e b. keeps C v (show e b) refl;
  sealing = λ v i k b. keeps C v (seal i k b) refl;
  opening = λ v i k b. keeps C v (unseal i k b) refl;
}
