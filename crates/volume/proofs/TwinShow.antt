-- The two runs: show. A name that is plain or decrypted is the given one in both runs, and never unreadable; one that is encoded differs in its letters alone, for
-- ciphertexts of one length have encodings of one length, with the same mark and the same two digits. Assumes nothing.
use Prim.Native.Nat.{ℕ, ◌≤◌, ◌<◌}
use native.Mathlib.Omega.{arith}
use mathlib.Core.Path.{◌≡◌, refl, sym, ◌∙◌, ap, ap₂, subst, subst₂}
use mathlib.Core.Logic.{◌≢◌}
use mathlib.Core.Bool.{Bool, true, false, cond, not, ◌&&◌, true≢false, false≢true}
use mathlib.Core.List.{◌∷◌, ◌++◌, append_assoc}
use mathlib.Core.Option.{some}
use lib.ListN.{length, take, drop, length-append}
use lib.Seq.{take-append_seam, drop-append_seam, drop_at}
use lib.Dec.{leb}
use borrow.Author.Tests.{le-leb, leb-true, leb-false}
use Rattle.lists.specs.Bytes.{Bytes, zeros, laid_over}
use Rattle.lists.proofs.Tests.{if_true, if_false}
use Rattle.errno.specs.Refusals.{is_fine, check_of}
use Rattle.fscrypt.specs.Names.{read_padded, name_bytes, packed, name_in}
use Rattle.fscrypt.specs.Encoded.{letters, encoded}
use Rattle.fscrypt.proofs.Padding.{read_padded_padded, name_bytes_packed}
use Rattle.fscrypt.proofs.Lettering.{length_front, marks, encoded_long}
use Rattle.fscrypt.proofs.Shown.{length_short, length_encoded}
use Rattle.volume.specs.Volume.{name_of}
use Rattle.volume.specs.Request.{show, Answer, shown, outcome, Form, Plain, Decrypted, Encoded}
use Rattle.volume.specs.Lookup.{key_present, inode_at, entry_at, is_vacant}
use Rattle.volume.specs.DirectoryNames.{name_key, read_name, shown_name, is_unreadable, form_in}
use Rattle.volume.specs.Checks.{show_check}
use Rattle.volume.specs.Step.{check, effect}
use Rattle.volume.specs.GivenNames.{Names, named_by, naming, named}
use Rattle.volume.specs.TwoRuns.{blank_letters, blank_shown, blank_name, blank_buffer}
use Rattle.ids.specs.declared.EntryNumber.{EntryNumber}
use Rattle.volume.specs.declared.Inode.{Inode}
use Rattle.volume.specs.declared.Entry.{Entry}
use Rattle.volume.specs.declared.Volume.{Volume}
use Rattle.volume.proofs.Twin.{identity, Setting, test, never, both_fine, enc_name, enc_entry, enc, Inv, EntryOk, ShownForm, StepTwin, Same}
use Rattle.volume.proofs.TwinLookup.{name_back, enc_length, entry_name, present_twin, form_twin, name_key_lem, entry_twin}
use Rattle.errno.specs.declared.Errno.{Errno}
use Rattle.fscrypt.specs.declared.Name.{Name}
use Rattle.std.specs.declared.result.Result.{Result}
use Rattle.std.specs.declared.result.Result.TheVariants.{Ok}

-- ---- encoded names

blank_short : (l r : Bytes) → length l ≤ 214 → blank_letters (length l) (l ++ r) ≡ zeros (length l) ++ r
unfolding blank_letters
blank_short l r h = rw (le-leb (length l) 214 h, drop-append_seam)

blank_long : (l x r : Bytes) → length l ≡ 214 → blank_letters 217 (95 ∷ ((l ++ x) ++ r)) ≡ 95 ∷ (zeros 214 ++ (x ++ r))
unfolding blank_letters
blank_long l x r h = rw (append_assoc, drop_at l (x ++ r) 214 h)

-- two names that differ in their letters alone
record LettersTwin (x y : Bytes) : Type 0 where
  lengths : length x ≡ length y
  buffers : (b : Bytes) → blank_letters (length x) (laid_over b x) ≡ blank_letters (length y) (laid_over b y)

short_twin : (x y : Bytes) → length x ≡ length y → length x ≤ 214 → LettersTwin x y
short_twin x y n w =
    record {
      lengths = n;
      buffers = λ b. blank_short x (drop (length x) b) w ∙ ap (λ (m : ℕ). zeros m ++ drop m b) n ∙ sym (blank_short y (drop (length y) b) (omega arith));
    }

long_twin : (x y z : Bytes) → length x ≡ 214 → length y ≡ 214 → length z ≡ 2 → LettersTwin (95 ∷ (x ++ z)) (95 ∷ (y ++ z))
long_twin x y z hx hy hz =
    let lx : length (95 ∷ (x ++ z)) ≡ 217 = omega (arith, length-append x z) in
    let ly : length (95 ∷ (y ++ z)) ≡ 217 = omega (arith, length-append y z) in
    record {
      lengths = lx ∙ sym ly;
      buffers = λ b.
          ap₂ (λ (m n : ℕ). blank_letters m (95 ∷ ((x ++ z) ++ drop n b))) lx lx
          ∙ blank_long x z (drop 217 b) hx
          ∙ sym (blank_long y z (drop 217 b) hy)
          ∙ sym (ap₂ (λ (m n : ℕ). blank_letters m (95 ∷ ((y ++ z) ++ drop n b))) ly ly);
    }

-- stored names of one length, encoded
encoded_twin : (s t : Bytes) (e : ℕ) → length s ≡ length t → LettersTwin (encoded s e) (encoded t e)
encoded_twin s t e h = go (leb (length s) 160) refl
  where
    go : (c : Bool) → leb (length s) 160 ≡ c → LettersTwin (encoded s e) (encoded t e)
    go true c =
        let u : length s ≤ 160 = leb-true (length s) 160 c in
        short_twin (encoded s e) (encoded t e) (length_encoded s t e h) (omega (arith, length_short s e u))
    go false c =
        let u : 160 < length s = leb-false (length s) 160 c in
        let w : 160 < length t = omega arith in
        rw (encoded_long s e u, encoded_long t e w) (long_twin (letters (take 160 s)) (letters (take 160 t)) (marks e) (length_front s u) (length_front t w) refl)

-- ---- the names that the two runs show of one entry, and whether they are unreadable

module _ (S : Setting) {g : Names} (v : Volume) (ok : Inv S g v) where
  record ShownTwin (e : ℕ) (b : Bytes) (form : Form) (n n' : Bytes) (bad bad' : Bool) : Type 0 where
    clean : bad ≡ false
    clean' : bad' ≡ false
    lengths : length n ≡ length n'
    shown_buffers : blank_shown form (length n) (laid_over b n) ≡ blank_shown form (length n') (laid_over b n')
    shown_right : ShownForm (g e) form (length n) (laid_over b n)

  -- both are the given name
  given_twin : (e : ℕ) (b : Bytes) (form : Form) (n m m' : Bytes) (bad bad' : Bool) → form ≢ Encoded → g e ≡ some n → m ≡ n → m' ≡ n → bad ≡ false → bad' ≡ false
      → ShownTwin e b form m m' bad bad'
  given_twin e b form n m m' bad bad' f h p q c c' =
      let l : m ≡ m' = p ∙ sym q in
      record {
        clean = c;
        clean' = c';
        lengths = ap length l;
        shown_buffers = ap (λ (x : Bytes). blank_shown form (length x) (laid_over b x)) l;
        shown_right = go form f;
      }
    where
      right : g e ≡ some (take (length m) (laid_over b m))
      right = h ∙ ap some (sym (take-append_seam m (drop (length m) b) ∙ p))

      go : (form : Form) → form ≢ Encoded → ShownForm (g e) form (length m) (laid_over b m)
      go Plain f = right
      go Decrypted f = right
      go Encoded f = absurd (f refl)

  letters_twin : (e : ℕ) (b s t : Bytes) → length s ≡ length t → ShownTwin e b Encoded (encoded s e) (encoded t e) false false
  unfolding blank_shown
  letters_twin e b s t l = let w = encoded_twin s t e l in record { clean = refl; clean' = refl; lengths = w.lengths; shown_buffers = w.buffers b; shown_right = tt }

  name_twin : (e : EntryNumber) (b : Bytes) → is_vacant (entry_at v e) ≡ false
      → let x = entry_at v e in
      let dir = inode_at v x.parent in
      let s = name_of (enc_entry S v.inodes x) in
      ShownTwin e.0 b (form_in v dir) (shown_name S.cipher (enc S v) dir e s) (shown_name identity v dir e (name_of x))
      (is_unreadable S.cipher (enc S v) dir s) (is_unreadable identity v dir (name_of x))
  unfolding shown_name is_unreadable form_in read_name
  name_twin e b u = go dir.encrypted refl (key_present (enc S v) dir) (key_present v dir) (present_twin S v ok dir) refl
    where
      x : Entry
      x = entry_at v e

      dir : Inode
      dir = inode_at v x.parent

      w : EntryOk S g dir e.0 x
      w = ok.entries_ok e.0 u

      s : Bytes
      s = name_of (enc_entry S v.inodes x)

      flags : ℕ
      flags = dir.context.policy.flags

      is : s ≡ enc_name S dir (name_of x)
      is = entry_name S v.inodes dir x u refl w.is_sized

      -- what the two runs read
      read : Result Name Errno
      read = read_padded flags (S.cipher.decrypt_name (name_key S.cipher (enc S v) dir) s)

      read' : Result Name Errno
      read' = read_padded flags (name_of x)

      read_is' : dir.encrypted ≡ true → read' ≡ Ok (packed w.name)
      read_is' c = ap (read_padded flags) (w.is_stored ∙ if_true _ _ c) ∙ read_padded_padded flags w.name w.is_plain

      read_is : dir.encrypted ≡ true → key_present v dir ≡ true → read ≡ Ok (packed w.name)
      read_is c h =
          ap (read_padded flags)
          (ap₂ (λ (k y : Bytes). S.cipher.decrypt_name k y) (name_key_lem S v ok dir h) (is ∙ if_true _ _ c) ∙ name_back S dir (name_of x) (w.storable c))
          ∙ read_is' c

      name_of_lem : (r : Result Name Errno) → r ≡ Ok (packed w.name) → name_bytes (name_in r) ≡ w.name
      name_of_lem r q = ap (λ (y : Result Name Errno). name_bytes (name_in y)) q ∙ name_bytes_packed w.name

      fine_of : (r : Result Name Errno) → r ≡ Ok (packed w.name) → not (is_fine (check_of r)) ≡ false
      fine_of r q = ap (λ (y : Result Name Errno). not (is_fine (check_of y))) q

      go : (c : Bool) → dir.encrypted ≡ c → (k k' : Bool) → k ≡ k' → key_present v dir ≡ k'
          → ShownTwin e.0 b (cond c (cond k' Decrypted Encoded) Plain)
          (cond c (cond k (name_bytes (name_in read)) (encoded s e.0)) s) (cond c (cond k' (name_bytes (name_in read')) (encoded (name_of x) e.0)) (name_of x))
          (c && (k && not (is_fine (check_of read)))) (c && (k' && not (is_fine (check_of read'))))
      go true c true true q h =
          given_twin e.0 b Decrypted w.name (name_bytes (name_in read)) (name_bytes (name_in read')) _ _ decrypted_shown w.is_given
          (name_of_lem read (read_is c h)) (name_of_lem read' (read_is' c)) (fine_of read (read_is c h)) (fine_of read' (read_is' c))
        where
          decrypted_shown : Decrypted ≢ Encoded
          decrypted_shown e = let z : ◌≡◌ {A = ℕ} 0 1 = cc in omega arith
      go true c true false q h = absurd (true≢false q)
      go true c false true q h = absurd (false≢true q)
      go true c false false q h = letters_twin e.0 b s (name_of x) (ap length is ∙ enc_length S dir (name_of x))
      go false c k k' q h =
          let p : name_of x ≡ w.name = w.is_stored ∙ if_false _ _ c in
          given_twin e.0 b Plain w.name s (name_of x) _ _ plain_shown w.is_given (is ∙ if_false _ _ c ∙ p) p refl refl
        where
          plain_shown : Plain ≢ Encoded
          plain_shown e = let z : ◌≡◌ {A = ℕ} 0 1 = cc in omega arith

  pub show_twin : (e : EntryNumber) (b : Bytes) → Same S g v (show e b) (show e b)
  unfolding Same check effect show_check named_by naming named blank_buffer blank_name
  show_twin e b =
      let x = entry_at v e in
      let f = enc_entry S v.inodes in
      let o = entry_twin S v ok e in
      let form-is = form_twin S v ok (inode_at v x.parent) in
      let told : Entry → Form → ℕ → Answer = λ z k n. shown (record { parent = z.parent; inode = z.inode; kind = (inode_at v z.inode).kind; form = k; len = n }) in
      let y : (z : Entry) → Bytes = λ z. shown_name S.cipher (enc S v) (inode_at v z.parent) e (name_of z) in
      test _ tt refl λ h₁.
      test _ tt (ap is_vacant o) λ u.
      let t = name_twin e b u in
      never _ (ap (λ (z : Entry). is_unreadable S.cipher (enc S v) (inode_at v z.parent) (name_of z)) o ∙ t.clean) t.clean'
      (both_fine (subst (λ (z : Entry). StepTwin S (show e b) g
      (outcome (told z (form_in (enc S v) (inode_at v z.parent)) (length (y z))) (laid_over b (y z)) (enc S v))
      (effect identity v (show e b))) (sym o)
      (record {
        answers = ap₂ (told x) form-is t.lengths;
        buffers = ap (λ (k : Form). blank_shown k (length (y (f x))) (laid_over b (y (f x)))) form-is ∙ t.shown_buffers;
        volumes = refl;
        inv = ok;
        right = λ e' lent q.
            let same_entry : e.0 ≡ e'.0 = cc in
            subst₂ (λ (k : Form) (i : ℕ). ShownForm (g i) k (length (y (f x))) (laid_over b (y (f x)))) (sym form-is) same_entry t.shown_right;
      })))
