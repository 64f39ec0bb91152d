-- What a request touches: one that only asks leaves the volume as it was and names no entry; each of those that change it is a case of its own. Proofs of what every
-- request keeps go by these cases, so that a further request that only asks is one row here. Assumes nothing.
use Prim.Native.Nat.{ℕ}
use mathlib.Core.Path.{◌≡◌, refl, sym, ◌∙◌, ap}
use mathlib.Core.Option.{Option, some, none}
use Rattle.lists.specs.Bytes.{Bytes}
use Rattle.fscrypt.specs.Cipher.{Cipher}
use Rattle.volume.specs.Request.{Request, add_key, remove_key, set_policy, get_policy, create, link, rename, exchange, remove, find, show, seal, unseal, Answer, refused, refusal_in}
use Rattle.volume.specs.Step.{effect}
use Rattle.volume.specs.GivenNames.{Naming, nothing, answered_in, unless_refused, naming, named, named_by}
use Rattle.ids.specs.declared.InodeNumber.{InodeNumber}
use Rattle.ids.specs.declared.EntryNumber.{EntryNumber}
use Rattle.volume.specs.declared.Volume.{Volume}
use Rattle.volume.proofs.Kept.{refusal≢none}

pub data Touches : Request → Type 0 where
  -- only asks: its effect answers no refusal, leaves the volume as it was, and names no entry
  asks : {r : Request} → ((C : Cipher) (v : Volume) → refusal_in (effect C v r).answer ≡ none) → ((C : Cipher) (v : Volume) → (effect C v r).volume ≡ v)
      → naming r ≡ nothing → Touches r
  adds_key : (d k : Bytes) → Touches (add_key d k)
  removes_key : (d : Bytes) → Touches (remove_key d)
  sets_policy : (i : InodeNumber) (p x : Bytes) → Touches (set_policy i p x)
  creates : (p : InodeNumber) (kind : ℕ) (n x : Bytes) → Touches (create p kind n x)
  links : (i p : InodeNumber) (n : Bytes) → Touches (link i p n)
  renames : (e : EntryNumber) (p : InodeNumber) (n : Bytes) → Touches (rename e p n)
  exchanges : (a b : EntryNumber) → Touches (exchange a b)
  removes : (e : EntryNumber) → Touches (remove e)

unfoldable pub touches : (r : Request) → Touches r
unfolding effect naming
touches (add_key d k) = adds_key d k
touches (remove_key d) = removes_key d
touches (set_policy i p x) = sets_policy i p x
touches (get_policy i) = asks (λ C v. refl) (λ C v. refl) refl
touches (create p kind n x) = creates p kind n x
touches (link i p n) = links i p n
touches (rename e p n) = renames e p n
touches (exchange a b) = exchanges a b
touches (remove e) = removes e
touches (find p n) = asks (λ C v. refl) (λ C v. refl) refl
touches (show e b) = asks (λ C v. refl) (λ C v. refl) refl
touches (seal i n b) = asks (λ C v. refl) (λ C v. refl) refl
touches (unseal i n b) = asks (λ C v. refl) (λ C v. refl) refl

-- no effect answers a refusal
effect_answers : (C : Cipher) (v : Volume) {r : Request} → Touches r → refusal_in (effect C v r).answer ≡ none
unfolding effect
effect_answers C v (asks answers leaves unnaming) = answers C v
effect_answers C v (adds_key d k) = refl
effect_answers C v (removes_key d) = refl
effect_answers C v (sets_policy i p x) = refl
effect_answers C v (creates p kind n x) = refl
effect_answers C v (links i p n) = refl
effect_answers C v (renames e p n) = refl
effect_answers C v (exchanges a b) = refl
effect_answers C v (removes e) = refl

pub never_refused : (C : Cipher) (v : Volume) (r : Request) (n : ℕ) → (effect C v r).answer ≡ refused n → ⊥
never_refused C v r n h = refusal≢none n (sym (ap refusal_in h) ∙ effect_answers C v (touches r))

-- a request that names nothing gives no entry a name, whatever it answers
pub unnamed : (r : Request) (a : Answer) (e : ℕ) → naming r ≡ nothing → named_by r a e ≡ none
unfolding named_by named
unnamed r a e h = ap (λ (x : Naming). unless_refused (refusal_in a) (named x (answered_in a) e)) h ∙ go (refusal_in a)
  where
    go : (o : Option ℕ) → unless_refused o none ≡ none
    go (some n) = refl
    go none = refl
