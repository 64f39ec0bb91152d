-- What the two runs come to, in plain sight: after every request the same answer, the same refusal number, the same inodes, the same lengths of stored names, the
-- same entries but for the bytes of names in encrypted directories, the same keyring but for key bytes, and the same buffers but for those that document 01 lets off.
-- Each is read off `two_runs`, since blanking a moment leaves it as it is: a `blank` that let off more would fail here. Assumes nothing.
use Prim.Native.Nat.{ℕ}
use mathlib.Core.Path.{◌≡◌, refl, sym, ◌∙◌, ap, ap₂}
use mathlib.Core.Bool.{Bool, true, false, cond}
use mathlib.Core.Logic.{◌≢◌, ◌⊎◌, inl, inr}
use mathlib.Core.List.Memᴰ
use mathlib.Core.List.{List, [], ◌∷◌, ◌++◌, map, Memᴰ}
use mathlib.Core.Option.{Option, some, none}
use lib.ListN.{length, get_or, take, drop, length-replicate}
use lib.Seq.{drop_at}
use lib.Dec.{leb}
use Rattle.lists.specs.Bytes.{Bytes, zeros}
use Rattle.fscrypt.specs.Cipher.{Cipher, Lawful, fscrypt}
use Rattle.fscrypt.proofs.Lawfulness.{fscrypt_lawful}
use Rattle.volume.specs.Request.{Request, add_key, show, Typed, AllTyped, Lent, no_buffer, key_buffer, name_buffer, block_buffer, lends, Form, Plain, Decrypted, Encoded, ShownEntry, Answer, refused, shown, refusal_in, shown_in, Outcome}
use Rattle.volume.specs.Volume.{fresh}
use Rattle.volume.specs.Lookup.{inode_at}
use Rattle.volume.specs.Step.{step}
use Rattle.volume.specs.Run.{Moment, moment_of, run_from, run}
use Rattle.volume.specs.GivenNames.{given}
use Rattle.volume.specs.TwoRuns.{SameButKeys, no_more, same_request, other_key, OneKeyEach, blank_start, blank_key, blank_entry, blank_volume, blank_letters, blank_shown, blank_name, blank_block, blank_buffer, blank, Agree, TwoRuns}
use Rattle.ids.specs.declared.EntryNumber.{EntryNumber}
use Rattle.volume.specs.declared.Key.{Key}
use Rattle.volume.specs.declared.Inode.{Inode}
use Rattle.volume.specs.declared.Entry.{Entry}
use Rattle.volume.specs.declared.Volume.{Volume}
use Rattle.volume.proofs.Typing.{one_more}
use Rattle.volume.proofs.Runs.{two_runs}

-- the theorem, of the ciphers that are used
pub two_runs_fscrypt : TwoRuns fscrypt
two_runs_fscrypt = two_runs fscrypt fscrypt_lawful

-- ---- what is seen of a moment

abbrev pub answer_of : Moment → Answer
answer_of m = m.answer

-- the number that a request was refused with, if it was refused
abbrev pub refusal_of : Moment → Option ℕ
refusal_of m = refusal_in m.answer

abbrev pub inodes_of : Moment → List Inode
inodes_of m = m.volume.inodes

abbrev pub lengths_of : Moment → List ℕ
lengths_of m = map (λ (e : Entry). e.len) m.volume.entries

-- an entry, but for the bytes of a name in an encrypted directory
abbrev pub entry_in : Volume → Entry → Entry
entry_in v e = record { len = e.len; parent = e.parent; inode = e.inode; name = cond (inode_at v e.parent).encrypted [] e.name }

abbrev pub entries_of : Moment → List Entry
entries_of m = map (entry_in m.volume) m.volume.entries

-- a slot of the keyring, but for the bytes of its key
abbrev pub slot_of : Key → Key
slot_of k = record { len = k.len; descriptor = k.descriptor; bytes = [] }

abbrev pub slots_of : Moment → List Key
slots_of m = map slot_of m.volume.keys

-- what may not differ of a buffer: nothing of a block that was sealed or opened and of the key of an add key; of a name without its key the bytes behind it, and
-- of a long one its `_` and its two digits
abbrev pub seen_name : Form → ℕ → Bytes → Option Bytes
seen_name Plain n b = some b
seen_name Decrypted n b = some b
seen_name Encoded n b = some (cond (leb n 214) (drop n b) (get_or b 0 0 ∷ drop 215 b))

abbrev pub name_in : Option ShownEntry → Bytes → Option Bytes
name_in (some s) b = seen_name s.form s.len b
name_in none b = some b

abbrev pub block_in : Option ℕ → Bytes → Option Bytes
block_in (some refusal) b = some b
block_in none b = none

abbrev pub buffer_in : Lent → Answer → Bytes → Option Bytes
buffer_in no_buffer a b = some b
buffer_in (key_buffer k) a b = none
buffer_in (name_buffer n) a b = name_in (shown_in a) b
buffer_in (block_buffer x) a b = block_in (refusal_in a) b

abbrev pub buffer_of : Moment → Option Bytes
buffer_of m = buffer_in (lends m.request) m.answer m.buffer

-- ---- what blanking leaves is the same in both runs

seen : {X : Type 0} (f : Outcome → X) (g : Moment → X) → ((m : Moment) → f (blank m) ≡ g m) → (ms : List Moment) → map f (map blank ms) ≡ map g ms
seen f g h [] = refl
seen f g h (m ∷ ms) = ap₂ ◌∷◌ (h m) (seen f g h ms)

same_lens : (v : Volume) (es : List Entry) → map (λ (e : Entry). e.len) (map (blank_entry v) es) ≡ map (λ (e : Entry). e.len) es
same_lens v [] = refl
same_lens v (e ∷ es) = ap (e.len ∷◌) (same_lens v es)

left_name : (t : Bool) (x y : Bytes) → cond t [] (cond t x y) ≡ cond t [] y
left_name true x y = refl
left_name false x y = refl

same_entries_of : (v : Volume) (es : List Entry) → map (entry_in (blank_volume v)) (map (blank_entry v) es) ≡ map (entry_in v) es
unfolding blank_volume
same_entries_of v [] = refl
same_entries_of v (e ∷ es) =
    ap₂ ◌∷◌
    (ap (λ (n : Bytes). record { len = e.len; parent = e.parent; inode = e.inode; name = n }) (left_name (inode_at v e.parent).encrypted (blank_start e.len e.name) e.name))
    (same_entries_of v es)

same_slots_of : (ks : List Key) → map slot_of (map blank_key ks) ≡ map slot_of ks
same_slots_of [] = refl
same_slots_of (k ∷ ks) = ap (slot_of k ∷◌) (same_slots_of ks)

left_start : (n : ℕ) (b : Bytes) → drop n (blank_start n b) ≡ drop n b
unfolding zeros
left_start n b = drop_at (zeros n) (drop n b) n (length-replicate n 0)

left_ends : (b : Bytes) → ◌≡◌ {A = Bytes} (get_or (take 1 b ++ blank_start 214 (drop 1 b)) 0 0 ∷ drop 215 (take 1 b ++ blank_start 214 (drop 1 b))) (get_or b 0 0 ∷ drop 215 b)
unfolding zeros
left_ends [] = refl
left_ends (x ∷ xs) = ap (x ∷◌) (left_start 214 xs)

left_letters : (t : Bool) (n : ℕ) (b : Bytes) → let c = cond t (blank_start n b) (take 1 b ++ blank_start 214 (drop 1 b)) in
    cond t (drop n c) (get_or c 0 0 ∷ drop 215 c) ≡ cond t (drop n b) (get_or b 0 0 ∷ drop 215 b)
left_letters true n b = left_start n b
left_letters false n b = left_ends b

left_shown : (f : Form) (n : ℕ) (b : Bytes) → seen_name f n (blank_shown f n b) ≡ seen_name f n b
unfolding blank_shown blank_letters
left_shown Plain n b = refl
left_shown Decrypted n b = refl
left_shown Encoded n b = ap some (left_letters (leb n 214) n b)

left_named : (o : Option ShownEntry) (b : Bytes) → name_in o (blank_name o b) ≡ name_in o b
unfolding blank_name
left_named (some s) b = left_shown s.form s.len b
left_named none b = refl

left_block : (o : Option ℕ) (b : Bytes) → block_in o (blank_block o b) ≡ block_in o b
unfolding blank_block
left_block (some refusal) b = refl
left_block none b = refl

left_buffer : (l : Lent) (a : Answer) (b : Bytes) → buffer_in l a (blank_buffer l a b) ≡ buffer_in l a b
unfolding blank_buffer
left_buffer no_buffer a b = refl
left_buffer (key_buffer k) a b = refl
left_buffer (name_buffer n) a b = left_named (shown_in a) b
left_buffer (block_buffer x) a b = left_block (refusal_in a) b

-- two moments of one request, which are the same once blanked
one_buffer : (r : Request) (o₁ o₂ : Outcome) → blank (moment_of r o₁) ≡ blank (moment_of r o₂) → buffer_of (moment_of r o₁) ≡ buffer_of (moment_of r o₂)
unfolding blank moment_of
one_buffer r o₁ o₂ e =
    sym (left_buffer (lends r) o₁.answer o₁.buffer)
    ∙ ap (λ (o : Outcome). buffer_in (lends r) o.answer o.buffer) e
    ∙ left_buffer (lends r) o₂.answer o₂.buffer

-- two runs that are the same once blanked, of lists that differ only in keys
seen_buffers : (C : Cipher) {rs₁ rs₂ : List Request} → SameButKeys rs₁ rs₂ → (v₁ v₂ : Volume) → map blank (run_from C v₁ rs₁) ≡ map blank (run_from C v₂ rs₂)
    → map buffer_of (run_from C v₁ rs₁) ≡ map buffer_of (run_from C v₂ rs₂)
unfolding run_from moment_of
seen_buffers C no_more v₁ v₂ e = refl
seen_buffers C (same_request r h) v₁ v₂ e =
    ap₂ ◌∷◌ (one_buffer r (step C v₁ r) (step C v₂ r) (cc e)) (seen_buffers C h (step C v₁ r).volume (step C v₂ r).volume (cc e))
seen_buffers C (other_key d k₁ k₂ l h) v₁ v₂ e =
    ap (none ∷◌) (seen_buffers C h (step C v₁ (add_key d k₁)).volume (step C v₂ (add_key d k₂)).volume (cc e))

module _ (C : Cipher) (law : Lawful C) (rs₁ rs₂ : List Request) (typed₁ : AllTyped rs₁) (typed₂ : AllTyped rs₂)
    (agree : SameButKeys rs₁ rs₂) (one₁ : OneKeyEach rs₁) (one₂ : OneKeyEach rs₂) where
  same_blank : map blank (run C rs₁) ≡ map blank (run C rs₂)
  same_blank = (two_runs C law rs₁ rs₂ typed₁ typed₂ agree one₁ one₂).same

  same_seen : {X : Type 0} (f : Outcome → X) (g : Moment → X) → ((m : Moment) → f (blank m) ≡ g m) → map g (run C rs₁) ≡ map g (run C rs₂)
  same_seen f g h = sym (seen f g h (run C rs₁)) ∙ ap (map f) same_blank ∙ seen f g h (run C rs₂)

  pub same_answers : map answer_of (run C rs₁) ≡ map answer_of (run C rs₂)
  unfolding blank
  same_answers = same_seen (λ o. o.answer) answer_of (λ m. refl)

  pub same_refusals : map refusal_of (run C rs₁) ≡ map refusal_of (run C rs₂)
  unfolding blank
  same_refusals = same_seen (λ o. refusal_in o.answer) refusal_of (λ m. refl)

  pub same_inodes : map inodes_of (run C rs₁) ≡ map inodes_of (run C rs₂)
  unfolding blank blank_volume
  same_inodes = same_seen (λ o. o.volume.inodes) inodes_of (λ m. refl)

  pub same_lengths : map lengths_of (run C rs₁) ≡ map lengths_of (run C rs₂)
  unfolding blank blank_volume
  same_lengths = same_seen (λ o. map (λ (e : Entry). e.len) o.volume.entries) lengths_of (λ m. same_lens m.volume m.volume.entries)

  pub same_entries : map entries_of (run C rs₁) ≡ map entries_of (run C rs₂)
  unfolding blank blank_volume
  same_entries = same_seen (λ o. map (entry_in o.volume) o.volume.entries) entries_of (λ m. same_entries_of m.volume m.volume.entries)

  pub same_slots : map slots_of (run C rs₁) ≡ map slots_of (run C rs₂)
  unfolding blank blank_volume
  same_slots = same_seen (λ o. map slot_of o.volume.keys) slots_of (λ m. same_slots_of m.volume.keys)

  pub same_buffers : map buffer_of (run C rs₁) ≡ map buffer_of (run C rs₂)
  same_buffers = seen_buffers C agree fresh fresh same_blank

  -- of either list alone: show never says EUCLEAN, and a name that it shows plain or decrypted is the given one
  pub never_unclean : (past next : List Moment) (m : Moment) → run C rs₁ ≡ past ++ (m ∷ next) → (e : EntryNumber) (b : Bytes) → m.request ≡ show e b → m.answer ≢ refused 117
  never_unclean = (two_runs C law rs₁ rs₂ typed₁ typed₂ agree one₁ one₂).names₁.clean

  pub shown_as_given : (past next : List Moment) (m : Moment) → run C rs₁ ≡ past ++ (m ∷ next) → (e : EntryNumber) (b : Bytes) → m.request ≡ show e b
      → (s : ShownEntry) → m.answer ≡ shown s → s.form ≢ Encoded → given past e.0 ≡ some (take s.len m.buffer)
  shown_as_given = (two_runs C law rs₁ rs₂ typed₁ typed₂ agree one₁ one₂).names₁.named

same_list : (rs : List Request) → SameButKeys rs rs
same_list [] = no_more
same_list (r ∷ rs) = same_request r (same_list rs)

-- ---- the lists that are meant: two keys are added, whatever their bytes, and then anything is asked

module _ (d e : Bytes) (apart : d ≢ e) (rs : List Request) (no_more : (d' k' : Bytes) → Memᴰ (add_key d' k') rs → ⊥) where
  abbrev keyed : Bytes → Bytes → List Request
  keyed k l = add_key d k ∷ add_key e l ∷ rs

  one_of_two : (k l : Bytes) → OneKeyEach (keyed k l)
  one_of_two k l d' k₁ k₂ h₁ h₂ = both (which k₁ h₁) (which k₂ h₂)
    where
      which : (k' : Bytes) → Memᴰ (add_key d' k') (keyed k l) → ((d' ≡ d) × (k' ≡ k)) ⊎ ((d' ≡ e) × (k' ≡ l))
      which k' h = first (Memᴰ.cases_cons h)
        where
          second : (add_key d' k' ≡ add_key e l) ⊎ Memᴰ (add_key d' k') rs → ((d' ≡ d) × (k' ≡ k)) ⊎ ((d' ≡ e) × (k' ≡ l))
          second (inl q) = inr (cc, cc)
          second (inr m) = absurd (no_more d' k' m)

          first : (add_key d' k' ≡ add_key d k) ⊎ Memᴰ (add_key d' k') (add_key e l ∷ rs) → ((d' ≡ d) × (k' ≡ k)) ⊎ ((d' ≡ e) × (k' ≡ l))
          first (inl q) = inl (cc, cc)
          first (inr m) = second (Memᴰ.cases_cons m)

      both : ((d' ≡ d) × (k₁ ≡ k)) ⊎ ((d' ≡ e) × (k₁ ≡ l)) → ((d' ≡ d) × (k₂ ≡ k)) ⊎ ((d' ≡ e) × (k₂ ≡ l)) → k₁ ≡ k₂
      both (inl p) (inl q) = p.1 ∙ sym q.1
      both (inl p) (inr q) = absurd (apart (sym p.0 ∙ q.0))
      both (inr p) (inl q) = absurd (apart (sym q.0 ∙ p.0))
      both (inr p) (inr q) = p.1 ∙ sym q.1

  same_but_two : (k₁ k₂ l₁ l₂ : Bytes) → length k₁ ≡ length k₂ → length l₁ ≡ length l₂ → SameButKeys (keyed k₁ l₁) (keyed k₂ l₂)
  same_but_two k₁ k₂ l₁ l₂ hk hl = other_key d k₁ k₂ hk (other_key e l₁ l₂ hl (same_list rs))

  -- the runs agree whatever the bytes of the two keys are: nothing more is asked of a list
  pub any_two_keys : (C : Cipher) → Lawful C → (k₁ k₂ l₁ l₂ : Bytes) → length k₁ ≡ length k₂ → length l₁ ≡ length l₂
      → Typed (add_key d k₁) → Typed (add_key d k₂) → Typed (add_key e l₁) → Typed (add_key e l₂) → AllTyped rs → Agree (run C (keyed k₁ l₁)) (run C (keyed k₂ l₂))
  any_two_keys C law k₁ k₂ l₁ l₂ hk hl tk₁ tk₂ tl₁ tl₂ ts =
      two_runs C law _ _ (one_more _ _ tk₁ (one_more _ _ tl₁ ts)) (one_more _ _ tk₂ (one_more _ _ tl₂ ts)) (same_but_two k₁ k₂ l₁ l₂ hk hl) (one_of_two k₁ l₁) (one_of_two k₂ l₂)
