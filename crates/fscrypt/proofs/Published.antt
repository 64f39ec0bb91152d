-- The published examples as derived keys, stored names and sealed blocks: each follows from the one that `ciphers` proves of its entry, and no cipher is looked into.
-- Assumes nothing.
use mathlib.Core.Path.{◌≡◌, ap}
use mathlib.Core.List.{List, [], ◌∷◌, ◌++◌}
use lib.ListN.{take}
use Rattle.lists.specs.Bytes.{zeros}
use Rattle.ciphers.specs.Entries.{Outcome}
use Rattle.ciphers.proofs.Published.{Example, ecb, cts, xts, Holds, AllHold, blocks, blocks_hold, texts, texts_hold, units, units_hold}
use Rattle.fscrypt.specs.Cipher.{fscrypt, derive, encrypt_name, seal}

-- the nonce is the AES key, and the master key is the text; contents mode 1 is AES-256-XTS
abbrev Carried : Example → Type 0
Carried (ecb key text expected) = fscrypt.derive text key ≡ expected
Carried (cts key text expected) = fscrypt.encrypt_name key text ≡ expected
Carried (xts key number start expected) = take 32 (fscrypt.seal 1 key number (start ++ zeros 4064)) ≡ expected

abbrev AllCarried : List Example → Type 0
AllCarried [] = Unit {0}
AllCarried (e ∷ es) = Carried e × AllCarried es

carried : (e : Example) → Holds e → Carried e
unfolding derive encrypt_name seal
carried (ecb key text expected) h = ap (λ (o : Outcome). o.buffer) h
carried (cts key text expected) h = ap (λ (o : Outcome). o.buffer) h
carried (xts key number start expected) h = h.1

all_carried : (es : List Example) → AllHold es → AllCarried es
all_carried [] h = tt
all_carried (e ∷ es) h = (carried e h.0, all_carried es h.1)

blocks_carried : AllCarried blocks
blocks_carried = all_carried blocks blocks_hold

texts_carried : AllCarried texts
texts_carried = all_carried texts texts_hold

units_carried : AllCarried units
units_carried = all_carried units units_hold
