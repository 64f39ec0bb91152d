-- A list of each of the requests is typed where its descriptor and nonce have their lengths and its bytes are bytes: what the claims ask of a list leaves
-- no request out. Assumes nothing.
use mathlib.Core.Path.{◌≡◌, sym, subst}
use mathlib.Core.Logic.{◌⊎◌, inl, inr}
use mathlib.Core.List.Memᴰ
use mathlib.Core.List.{List, [], ◌∷◌, Memᴰ}
use Prim.Native.Nat.{ℕ}
use lib.ListN.{length}
use Rattle.lists.specs.Bytes.{Bytes, ByteList}
use Rattle.volume.specs.Request.{Request, Typed, AllTyped, each_request}
use Rattle.ids.specs.declared.InodeNumber.{InodeNumber}
use Rattle.ids.specs.declared.EntryNumber.{EntryNumber}

pub none_typed : AllTyped []
none_typed r h = absurd (Memᴰ.not-nil h)

pub one_more : (r : Request) (rs : List Request) → Typed r → AllTyped rs → AllTyped (r ∷ rs)
one_more r rs t ts q h = go (Memᴰ.cases_cons h)
  where
    go : (q ≡ r) ⊎ Memᴰ q rs → Typed q
    go (inl e) = subst Typed (sym e) t
    go (inr p) = ts q p

-- the same, request by request, so that it is found by looking at one request after the other
data Each : List Request → Type 0 where
  none : Each []
  next : {r : Request} {rs : List Request} → Typed r → Each rs → Each (r ∷ rs)

all_typed : {rs : List Request} → Each rs → AllTyped rs
all_typed none = none_typed
all_typed (next t ts) = one_more _ _ t (all_typed ts)

pub each_typed : (i p : InodeNumber) (a b : EntryNumber) (kind number : ℕ) (d x s : Bytes) → length d ≡ 8 → length x ≡ 16 → ByteList d → ByteList x → ByteList s
    → AllTyped (each_request i p a b kind number d x s)
each_typed i p a b kind number d x s ld lx bd bx bs = all_typed (search (none, next) depth 30 fits 4000)
