-- What the computed runs share: a small cipher to which every byte of a key and of a nonce counts, and all of a block's number; values of full width; and the one
-- list of the definitions that a run computes with. Assumes nothing.
use Prim.Native.Nat.{ℕ, zero, suc, ◌+◌, ◌-◌, ◌*◌, ◌%◌}
use mathlib.Core.List.{List, [], ◌∷◌, ◌++◌, map}
use lib.ListN.{length, take, replicate}
use Rattle.lists.specs.Bytes.{Bytes, zeros, first_at, same, hex_digit}
use Rattle.errno.specs.Refusals.{◌⇒◌, ◌>>◌}
use Rattle.policy.specs.Policies.{is_pair, is_valid, same_policy, is_master_key_size, name_key_size, policy_bytes, policy_at, policy_check, read_policy}
use Rattle.fscrypt.specs.Cipher.{Cipher}
use Rattle.fscrypt.specs.Names.{is_dot_name, is_bad_name, name_check, rounded, padded_length, padded, encrypted, before_nul, is_all_nul, padding_check, read_padded}
use Rattle.fscrypt.specs.Encoded.{letter, letters, encoded}
use Rattle.volume.specs.Volume.{fresh}
use Rattle.volume.specs.Request.{Request, Answer, shown, Form}
use Rattle.volume.specs.Lookup.{key_slot_of, free_key_slot, key_of, key_present, lacks_key, free_inode, bears_nonce, nonce_holder, free_entry, entry_named, first_child, first_link, parent_of, climb_from, is_under_itself}
use Rattle.volume.specs.DirectoryNames.{derived_key, name_key, stored, read_name, shown_name, is_unreadable, form_in}
use Rattle.volume.specs.Checks.{directory_check, is_policy_refused, is_bad_kind, is_bad_key_length, is_nonce_needed, nonce_check, add_key_check, remove_key_check, set_policy_check, get_policy_check, remove_check, exchange_check, block_check, create_check, link_check, rename_check, find_check, show_check}
use Rattle.volume.specs.Step.{child_of, without_unheld, lent, check, effect, settle, step}
use Rattle.volume.specs.Run.{Moment, moment_of, run_from, run}
use Rattle.ids.specs.declared.InodeNumber.{InodeNumber}
use Rattle.ids.specs.declared.EntryNumber.{EntryNumber}

-- ---- the small cipher

-- each byte moved on by t
unfoldable pub moved : ℕ → Bytes → Bytes
moved t x = map (λ (b : ℕ). (b + t) % 256) x

-- and back
unfoldable pub back : ℕ → Bytes → Bytes
back t x = moved (256 - t % 256) x

-- a remainder to which every byte counts, and its position
unfoldable pub weighed : Bytes → ℕ
weighed [] = 0
weighed (b ∷ bs) = (b + 3 * weighed bs) % 251

-- a derived key is moved by what the nonce weighs, a name by what its key weighs, and a block by that, a remainder of its number and 16 times its mode
unfoldable pub small : Cipher
small =
    record {
      derive = λ k x. moved (weighed x) k;
      encrypt_name = λ k t. moved (weighed k) t;
      decrypt_name = λ k t. back (weighed k) t;
      seal = λ m k n b. moved (weighed k + n % 251 + 16 * m) b;
      unseal = λ m k n b. back (weighed k + n % 251 + 16 * m) b;
    }

-- ---- the parts of requests and answers

-- so many numbers, from this one on
abbrev pub counted : ℕ → ℕ → List ℕ
counted zero from = []
counted (suc n) from = from ∷ counted n (suc from)

-- eight different bytes, of which the last is given
abbrev pub descriptor : ℕ → Bytes
descriptor n = counted 7 21 ++ n ∷ []

-- sixteen, of which the last is given
abbrev pub nonce : ℕ → Bytes
nonce n = counted 15 41 ++ n ∷ []

-- 64, of which the first is given
abbrev pub key : ℕ → Bytes
key n = n ∷ counted 63 130

-- with these flags, and the descriptor of this number
abbrev pub policy : ℕ → ℕ → Bytes
policy flags n = 0 ∷ 1 ∷ 4 ∷ flags ∷ descriptor n

-- a buffer lent to show, and one lent to seal or open
abbrev pub blank : Bytes
blank = replicate 255 77

abbrev pub block : ℕ → Bytes
block b = replicate 4096 b

abbrev pub inode : ℕ → InodeNumber
inode n = record { 0 = n }

abbrev pub entry : ℕ → EntryNumber
entry n = record { 0 = n }

abbrev pub seen : ℕ → ℕ → ℕ → Form → ℕ → Answer
seen p i kind form n = shown (record { parent = inode p; inode = inode i; kind = kind; form = form; len = n })

-- ---- occasions

-- a request, what it answers, and what then stands at the start of the lent buffer
pub record Occasion : Type 0 where
  pub request : Request
  pub answer : Answer
  pub start : Bytes

infix 75 ◌answers◌
abbrev pub ◌answers◌ : Request → Answer → Occasion
r answers a = record { request = r; answer = a; start = [] }

infix 72 ◌leaving◌
abbrev pub ◌leaving◌ : Occasion → Bytes → Occasion
o leaving b = record { request = o.request; answer = o.answer; start = b }

abbrev pub requests_of : List Occasion → List Request
requests_of os = map (λ (o : Occasion). o.request) os

-- what they should come to
abbrev pub expected : List Occasion → List (Answer × Bytes)
expected os = map (λ (o : Occasion). (o.answer, o.start)) os

-- what a run came to, of each buffer as much as is expected
abbrev pub told : List Occasion → List Moment → List (Answer × Bytes)
told [] ms = []
told (o ∷ os) [] = []
told (o ∷ os) (m ∷ ms) = (m.answer, take (length o.start) m.buffer) ∷ told os ms

-- the run of these requests under the small cipher. Whoever unfolds it unfolds all that a run computes with
unfoldable pub ran : List Request → List Moment
unfolding moved back weighed small run_from moment_of step settle lent check effect fresh child_of without_unheld ◌⇒◌ ◌>>◌ zeros first_at same is_pair is_valid same_policy is_master_key_size name_key_size policy_bytes policy_at policy_check read_policy is_dot_name is_bad_name name_check rounded padded_length padded encrypted before_nul is_all_nul padding_check read_padded letter letters hex_digit encoded key_slot_of free_key_slot key_of key_present lacks_key free_inode bears_nonce nonce_holder free_entry entry_named first_child first_link parent_of climb_from is_under_itself directory_check is_policy_refused is_bad_kind is_bad_key_length is_nonce_needed nonce_check derived_key name_key stored read_name shown_name is_unreadable form_in add_key_check remove_key_check set_policy_check get_policy_check remove_check exchange_check block_check create_check link_check rename_check find_check show_check
ran rs = run small rs

-- what the requests of these occasions come to
abbrev pub computed : List Occasion → List (Answer × Bytes)
computed os = told os (ran (requests_of os))
