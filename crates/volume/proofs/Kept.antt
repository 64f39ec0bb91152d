-- What holds of every refusal, with buffer and volume as they were, and of the effect where the check passed, holds of a request's outcome; and what every typed
-- request keeps holds after each request of a list, by induction on the list. A request that was not refused passed its checks and did its effect. Assumes nothing.
use Prim.Native.Nat.{ℕ}
use native.Mathlib.Omega.{arith}
use mathlib.Core.Path.{◌≡◌, refl, sym, ◌∙◌, ap, subst}
use mathlib.Core.Logic.{◌≢◌, ◌⊎◌, inl, inr}
use mathlib.Core.Option.{Option, some, none}
use mathlib.Core.List.Memᴰ
use mathlib.Core.List.{List, [], ◌∷◌, Memᴰ}
use Rattle.lists.specs.Bytes.{Bytes}
use Rattle.errno.specs.Refusals.{Checked, fine, number}
use Rattle.errno.specs.declared.Errno.{Errno}
use Rattle.fscrypt.specs.Cipher.{Cipher}
use Rattle.volume.specs.Volume.{fresh}
use Rattle.volume.specs.Request.{Request, Answer, refused, refusal_in, Outcome, outcome, Typed, AllTyped}
use Rattle.volume.specs.Step.{lent, check, effect, settle, step}
use Rattle.volume.specs.Run.{Moment, moment_of, run_from, run}
use Rattle.volume.specs.declared.Volume.{Volume}
use Rattle.std.specs.declared.result.Result.TheVariants.{Ok, Err}

-- ---- one request

pub refusal≢none : (n : ℕ) → ◌≢◌ {A = Option ℕ} (some n) none
refusal≢none n h = let z : ◌≡◌ {A = ℕ} 0 1 = cc in omega arith

settle_has : (P : Outcome → Type 0) (v : Volume) (b : Bytes) (k : Checked) (o : Outcome) → ((e : Errno) → P (outcome (refused (number e)) b v)) → (k ≡ fine → P o)
    → P (settle v b k o)
unfolding settle
settle_has P v b (Err e) o r f = r e
settle_has P v b (Ok _) o r f = f refl

module _ (C : Cipher) (v : Volume) (r : Request) where
  -- what holds of a refusal, and of the effect where the check passed
  pub step_has : (P : Outcome → Type 0) → ((e : Errno) → P (outcome (refused (number e)) (lent r) v)) → (check C v r ≡ fine → P (effect C v r)) → P (step C v r)
  unfolding step
  step_has P = settle_has P v (lent r) (check C v r) (effect C v r)

  pub volume_has : (P : Volume → Type 0) → P v → (check C v r ≡ fine → P (effect C v r).volume) → P (step C v r).volume
  volume_has P p f = step_has (λ (o : Outcome). P o.volume) (λ e. p) f

  pub done_by : check C v r ≡ fine → step C v r ≡ effect C v r
  unfolding step settle
  done_by h = ap (λ (k : Checked). settle v (lent r) k (effect C v r)) h

  -- a request that was not refused passed its checks
  module _ (a : Answer) (no : refusal_in a ≡ none) (h : (step C v r).answer ≡ a) where
    pub was_fine : check C v r ≡ fine
    was_fine = step_has (λ (o : Outcome). o.answer ≡ a → check C v r ≡ fine) (λ e q. absurd (refusal≢none (number e) (ap refusal_in q ∙ no))) (λ k q. k) h

    pub was_done : step C v r ≡ effect C v r
    was_done = done_by was_fine

-- ---- a list of requests

module _ (C : Cipher) (P : Volume → Type 0) where
  -- what every request keeps that leaves a volume with Q, where all of them do
  pub kept_while : (Q : Volume → Type 0) → ((v : Volume) → P v → (r : Request) → Typed r → Q (step C v r).volume → P (step C v r).volume)
      → (rs : List Request) (v : Volume) → P v → AllTyped rs → ((m : Moment) → Memᴰ m (run_from C v rs) → Q m.volume)
      → (m : Moment) → Memᴰ m (run_from C v rs) → P m.volume
  unfolding run_from moment_of
  kept_while Q kept [] v p t q m h = absurd (Memᴰ.not-nil h)
  kept_while Q kept (r ∷ rs) v p t q m h =
      let p' = kept v p r (t r (Memᴰ.head refl)) (q (moment_of r (step C v r)) (Memᴰ.head refl)) in
      go (Memᴰ.cases_cons h) p'
      (kept_while Q kept rs (step C v r).volume p' (λ r' z. t r' (Memᴰ.tail z)) (λ m' z. q m' (Memᴰ.tail z)) m)
    where
      go : (m ≡ moment_of r (step C v r)) ⊎ Memᴰ m (run_from C (step C v r).volume rs) → P (step C v r).volume
          → (Memᴰ m (run_from C (step C v r).volume rs) → P m.volume) → P m.volume
      go (inl e) p' ih = subst (λ (x : Moment). P x.volume) (sym e) p'
      go (inr z) p' ih = ih z

  -- what the fresh volume has and every request keeps
  pub kept_always : P fresh → ((v : Volume) → P v → (r : Request) → Typed r → P (step C v r).volume)
      → (rs : List Request) → AllTyped rs → (m : Moment) → Memᴰ m (run C rs) → P m.volume
  kept_always p kept rs t = kept_while (λ v. Unit {0}) (λ v p r t q. kept v p r t) rs fresh p t (λ m h. tt)

-- every moment of a run is its request on some volume
pub was_step : (C : Cipher) (rs : List Request) (v : Volume) (m : Moment) → Memᴰ m (run_from C v rs) → (w : Volume) × (m ≡ moment_of m.request (step C w m.request))
unfolding run_from moment_of
was_step C [] v m h = absurd (Memᴰ.not-nil h)
was_step C (r ∷ rs) v m h = go (Memᴰ.cases_cons h) (was_step C rs (step C v r).volume m)
  where
    go : (m ≡ moment_of r (step C v r)) ⊎ Memᴰ m (run_from C (step C v r).volume rs)
        → (Memᴰ m (run_from C (step C v r).volume rs) → (w : Volume) × (m ≡ moment_of m.request (step C w m.request)))
        → (w : Volume) × (m ≡ moment_of m.request (step C w m.request))
    go (inl e) later = (v, e ∙ ap (λ (x : Request). moment_of x (step C v x)) (sym (ap (λ (x : Moment). x.request) e)))
    go (inr z) later = later z
