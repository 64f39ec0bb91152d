-- Which values a request takes, each tried by itself and computed from the definitions: lengths, kinds, modes, flags, bytes of names, and that each byte of a
-- descriptor, a nonce and a policy counts. They rule out a value too many, a value that lacks, and a byte that is not compared. Assumes nothing.
use Prim.Native.Nat.{ℕ, ◌/◌, ◌%◌}
use mathlib.Core.Path.{◌≡◌, refl}
use mathlib.Core.Bool.{Bool, false, cond, ◌||◌}
use mathlib.Core.List.{List, [], ◌∷◌, ◌++◌, map}
use lib.ListN.{replicate, set}
use lib.Dec.{eqb}
use Rattle.lists.specs.Bytes.{Bytes, zeros}
use Rattle.volume.specs.Volume.{fresh}
use Rattle.volume.specs.Request.{Request, add_key, remove_key, set_policy, create, find, show, Answer, refused, done, created, Plain}
use Rattle.volume.specs.Step.{step}
use Rattle.volume.specs.declared.Volume.{Volume}
use Rattle.volume.proofs.Computing.{counted, descriptor, nonce, key, policy, inode, entry, seen, small, ran}

-- on a volume that some requests made, each of the numbers tried: the request of one that is listed gets the first answer, of any other the second
record Trial : Type 0 where
  before : List Request
  tried : List ℕ
  request : ℕ → Request
  listed : List ℕ
  first : Answer
  second : Answer

trial : List Request → List ℕ → (ℕ → Request) → List ℕ → Answer → Answer → Trial
trial before tried request listed first second = record { before = before; tried = tried; request = request; listed = listed; first = first; second = second }

left : Volume → List Request → Volume
left v [] = v
left v (r ∷ rs) = left (step small v r).volume rs

is_listed : List ℕ → ℕ → Bool
is_listed [] n = false
is_listed (m ∷ ms) n = eqb m n || is_listed ms n

outcomes : Trial → List Answer
outcomes t = let v = left fresh t.before in map (λ (n : ℕ). (step small v (t.request n)).answer) t.tried

foreseen : Trial → List Answer
foreseen t = map (λ (n : ℕ). cond (is_listed t.listed n) t.first t.second) t.tried

every_byte : List ℕ
every_byte = counted 256 0

-- a plain directory; and an encrypted one, its key there
plain : List Request
plain = create (inode 0) 1 (100 ∷ []) (nonce 0) ∷ []

locked : List Request
locked = plain ++ add_key (descriptor 8) (key 9) ∷ set_policy (inode 1) (policy 3 8) (nonce 1) ∷ []

-- a find on a fresh volume: a bad name is refused before what is not there
named : (ℕ → Bytes) → List ℕ → Trial
named name bad = trial [] every_byte (λ n. find (inode 0) (name n)) bad (refused 22) (refused 2)

-- a first policy, of these bytes
policied : List ℕ → (ℕ → Bytes) → List ℕ → Trial
policied tried bytes taken = trial plain tried (λ n. set_policy (inode 1) (bytes n) (nonce 1)) taken done (refused 22)

-- what create answers in these volumes
new : Answer
new = created (inode 2) (entry 1)

-- a value with one byte changed; where there is no such byte, the value itself
but : Bytes → ℕ → Bytes
but x n = set x n 99

trials : List Trial
trials =
    -- "a master key of 16, 32, 48 or 64 bytes"
    trial [] every_byte (λ n. add_key (zeros 8) (zeros n)) (16 ∷ 32 ∷ 48 ∷ 64 ∷ []) done (refused 22)
    -- "Kinds: 1 folder, 2 regular file, 3 symlink, 4 special"
    ∷ trial plain every_byte (λ n. create (inode 1) n (97 ∷ []) (nonce 1)) (counted 4 1) new (refused 22)
    ∷ trial locked every_byte (λ n. create (inode 1) n (97 ∷ []) (nonce 2)) (counted 4 1) new (refused 22)
    -- "A plain name has 1 to 255 bytes, no NUL, no `/`, and isn't `.` or `..`."
    ∷ trial plain (counted 300 1) (λ n. create (inode 1) 2 (replicate n 97) (nonce 1)) (counted 255 1) new (refused 36)
    ∷ trial locked (counted 300 1) (λ n. create (inode 1) 2 (replicate n 97) (nonce 2)) (counted 255 1) new (refused 36)
    ∷ named (λ n. n ∷ []) (0 ∷ 46 ∷ 47 ∷ [])
    ∷ named (λ n. 97 ∷ n ∷ []) (0 ∷ 47 ∷ [])
    ∷ named (λ n. 46 ∷ n ∷ []) (0 ∷ 46 ∷ 47 ∷ [])
    ∷ named (λ n. 46 ∷ 46 ∷ n ∷ []) (0 ∷ 47 ∷ [])
    -- "Valid: version 0; contents 1 .. with names 4 ..; flags 0 to 3"; of the modes all pairs below 16; and 12 bytes in all
    ∷ policied every_byte (λ n. n ∷ 1 ∷ 4 ∷ 0 ∷ descriptor 8) (0 ∷ [])
    ∷ policied every_byte (λ n. 0 ∷ n ∷ 4 ∷ 0 ∷ descriptor 8) (1 ∷ [])
    ∷ policied every_byte (λ n. 0 ∷ 1 ∷ n ∷ 0 ∷ descriptor 8) (4 ∷ [])
    ∷ policied every_byte (λ n. 0 ∷ n / 16 ∷ n % 16 ∷ 3 ∷ descriptor 8) (20 ∷ [])
    ∷ policied every_byte (λ n. 0 ∷ 1 ∷ 4 ∷ n ∷ descriptor 8) (counted 4 0)
    ∷ policied (counted 32 0) (λ n. 0 ∷ 1 ∷ 4 ∷ 3 ∷ zeros n) (8 ∷ [])
    -- "lent name buffer under 255 bytes"
    ∷ trial plain (counted 300 0) (λ n. show (entry 0) (zeros n)) (counted 255 0) (refused 34) (seen 0 1 1 Plain 1)
    -- two descriptors differ that differ in one byte, each of the eight: the key is held under its own alone
    ∷ trial locked (counted 9 0) (λ n. add_key (but (descriptor 8) n) (key 5)) (counted 8 0) done (refused 17)
    ∷ trial locked (counted 9 0) (λ n. remove_key (but (descriptor 8) n)) (counted 8 0) (refused 126) done
    -- two policies differ that differ in the flags, or in one byte of the descriptor; nonces don't count
    ∷ trial locked (counted 4 0) (λ n. set_policy (inode 1) (policy n 8) (nonce 5)) (3 ∷ []) done (refused 17)
    ∷ trial locked (counted 9 4) (λ n. set_policy (inode 1) (but (policy 3 8) n) (nonce 5)) (counted 8 4) (refused 17) done
    -- two nonces differ that differ in one byte, each of the sixteen
    ∷ trial locked (counted 17 0) (λ n. create (inode 1) 3 (97 ∷ []) (but (nonce 1) n)) (counted 16 0) new (refused 76)
    ∷ []

tried_each : map outcomes trials ≡ map foreseen trials
unfolding ran trial left is_listed outcomes foreseen every_byte plain locked named policied new but trials
tried_each = refl
