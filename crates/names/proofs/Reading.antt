-- The key derived for an inode, and the cases of a stored and of a shown name, over what code has at each return. How long a key that is present is, is said
-- once (`present_sizes`). Assumes nothing.
use mathlib.Core.Path.{◌≡◌, refl, sym, ap, ap₂, ◌∙◌}
use mathlib.Core.Bool.{Bool, true, false, cond, not, ◌&&◌}
use mathlib.Core.List.{◌++◌}
use Prim.Native.Nat.{ℕ, ◌≤◌}
use native.Mathlib.Omega.{arith}
use lib.ListN.{length, take, drop, length-append}
use lib.Seq.{take_at, drop_at}
use borrow.Author.Tests.{eqb-true}
use Rattle.lists.specs.Bytes.{Bytes}
use Rattle.lists.proofs.Tests.{if_true, if_false}
use Rattle.errno.specs.Refusals.{is_fine, check_of}
use Rattle.errno.specs.declared.Errno.TheVariants.{EUCLEAN}
use Rattle.policy.specs.Policies.{is_master_key_size, name_key_size}
use Rattle.fscrypt.specs.Cipher.{Cipher}
use Rattle.fscrypt.specs.Keys.{derived_bytes}
use Rattle.lists.proofs.ByteStrings.{count_take}
use Rattle.fscrypt.specs.Names.{encrypted, padding_check, read_padded, before_nul, name_bytes, packed, name_in}
use Rattle.fscrypt.specs.Encoded.{encoded}
use Rattle.fscrypt.specs.declared.DerivedKey.{DerivedKey}
use Rattle.fscrypt.specs.declared.Name.{Name}
use Rattle.fscrypt.proofs.Padding.{name_bytes_packed}
use Rattle.volume.specs.Volume.{key_bytes}
use Rattle.volume.specs.Lookup.{inode_at, key_of, descriptor_of, key_present, entry_named}
use Rattle.volume.specs.DirectoryNames.{derived_key, name_key, stored, read_name, shown_name, is_unreadable}
use Rattle.ids.specs.declared.EntryNumber.{EntryNumber}
use Rattle.ids.specs.declared.InodeNumber.{InodeNumber}
use Rattle.volume.specs.declared.Key.{Key}
use Rattle.volume.specs.declared.Inode.{Inode}
use Rattle.volume.specs.declared.Volume.{Volume}
use Rattle.lookup.specs.Found.{entry_found}
use Rattle.std.specs.declared.option.Option.{Option}
use Rattle.names.specs.Derived.{DerivedFor}
use Rattle.names.specs.Shown.{shown_read}
use Rattle.errno.specs.declared.Errno.{Errno}
use Rattle.std.specs.declared.result.Result.{Result}
use Rattle.std.specs.declared.result.Result.TheVariants.{Ok, Err}

-- ---- keys

-- a key that is present fits its slot, and is long enough for names: the one place that says how long it is
pub record PresentSizes (i : Inode) (k : Key) : Type 0 where
  pub fits : k.len ≤ length k.bytes
  pub for_names : name_key_size i.context.policy ≤ k.len

pub present_sizes : (v : Volume) (i : Inode) (k : Key) → k ≡ key_of v (descriptor_of i) → key_present v i ≡ true → length k.bytes ≡ 64 → PresentSizes i k
unfolding key_present is_master_key_size name_key_size
present_sizes v i k e p l =
    let n : k.len ≡ 64 = ap (λ (y : Key). y.len) e ∙ eqb-true _ 64 p in
    record { fits = omega arith; for_names = omega arith }

-- the start of a slot derived in place, and what stands behind it
pub derived_by_lem : (C : Cipher) (v : Volume) (i : Inode) (k : Key) (b : Bytes) → k ≡ key_of v (descriptor_of i) → PresentSizes i k
    → length b ≡ k.len → b ≡ C.derive (key_bytes k) i.context.nonce → DerivedFor C v i (record { len = k.len; bytes = b ++ drop k.len k.bytes })
unfolding derived_key
derived_by_lem C v i k b e s l q = record {
  bytes = take_at b (drop k.len k.bytes) k.len l ∙ q ∙ ap (λ (x : Key). C.derive (key_bytes x) i.context.nonce) e;
  rest = drop_at b (drop k.len k.bytes) k.len l ∙ ap (λ (x : Key). drop k.len x.bytes) e;
  fits = omega (arith, length-append b (drop k.len k.bytes));
  for_names = s.for_names;
}

-- the key for names, as code cuts it off a derived key
module _ (C : Cipher) (v : Volume) (dir : Inode) (d : DerivedKey) (n : ℕ) (h : DerivedFor C v dir d) (e : n ≡ name_key_size dir.context.policy) (b : Bytes) (k : b ≡ derived_bytes d) where
  pub names_key_fits : n ≤ length b
  names_key_fits = omega (arith, h.for_names, count_take d.len d.bytes h.fits, ap length k)

  pub names_key : take n b ≡ name_key C v dir
  unfolding name_key
  names_key = ap₂ take e (k ∙ h.bytes)

-- ---- names

-- what was read is a packed name, or EUCLEAN
read_whole : (C : Cipher) (v : Volume) (dir : Inode) (s : Bytes)
    → read_name C v dir s ≡ cond (not (is_fine (check_of (read_name C v dir s)))) (Err EUCLEAN) (Ok (packed (name_bytes (name_in (read_name C v dir s)))))
unfolding read_name read_padded
read_whole C v dir s = go (is_fine (padding_check dir.context.policy.flags (C.decrypt_name (name_key C v dir) s))) (C.decrypt_name (name_key C v dir) s)
  where
    go : (t : Bool) (b : Bytes) → let x : Result Name Errno = cond t (Ok (packed (before_nul b))) (Err EUCLEAN) in x ≡ cond (not (is_fine (check_of x))) (Err EUCLEAN) (Ok (packed (name_bytes (name_in x))))
    go true b = ap (λ (n : Bytes). Ok (packed n)) (sym (name_bytes_packed (before_nul b)))
    go false b = refl

read_with : (C : Cipher) (v : Volume) (dir : Inode) (s : Bytes) (n : Name) (key : Bytes) → n ≡ packed s → key ≡ name_key C v dir
    → read_padded dir.context.policy.flags (C.decrypt_name key (name_bytes n)) ≡ read_name C v dir s
unfolding read_name
read_with C v dir s n key h d = ap₂ (λ (k b : Bytes). read_padded dir.context.policy.flags (C.decrypt_name k b)) d (ap name_bytes h ∙ name_bytes_packed s)

module _ (C : Cipher) (v : Volume) (dir : Inode) where
  pub stored_plain : (n : Bytes) (r : Name) → dir.encrypted ≡ false → r ≡ packed n → r ≡ packed (stored C v dir n)
  unfolding stored
  stored_plain n r e h = h ∙ ap packed (sym (if_false _ _ e))

  pub stored_encrypted : (n key : Bytes) (r : Name) → dir.encrypted ≡ true → key ≡ name_key C v dir → r ≡ packed (encrypted C key dir.context.policy.flags n) → r ≡ packed (stored C v dir n)
  unfolding stored
  stored_encrypted n key r e d h = h ∙ ap (λ (k : Bytes). packed (encrypted C k dir.context.policy.flags n)) d ∙ ap packed (sym (if_true _ _ e))

  module _ (e : EntryNumber) (s : Bytes) where
    -- by whether the directory is encrypted and its key is present
    shown_cases : (b k : Bool) → dir.encrypted ≡ b → key_present v dir ≡ k
        → shown_read C v dir e s
        ≡ cond (b && (k && not (is_fine (check_of (read_name C v dir s))))) (Err EUCLEAN) (Ok (packed (cond b (cond k (name_bytes (name_in (read_name C v dir s))) (encoded s e.0)) s)))
    unfolding shown_read shown_name is_unreadable
    shown_cases b k p q =
        ap₂ (λ (x y : Bool). cond {A = Result Name Errno} (x && (y && not (is_fine (check_of (read_name C v dir s))))) (Err EUCLEAN) (Ok (packed (cond x (cond y (name_bytes (name_in (read_name C v dir s))) (encoded s e.0)) s)))) p q

    pub shown_plain : (n : Name) → dir.encrypted ≡ false → n ≡ packed s → ◌≡◌ {A = Result Name Errno} (Ok n) (shown_read C v dir e s)
    shown_plain n p h = ap (λ (x : Name). Ok x) h ∙ sym (shown_cases false (key_present v dir) p refl)

    pub shown_encoded : (n r : Name) → dir.encrypted ≡ true → key_present v dir ≡ false → n ≡ packed s → r ≡ packed (encoded (name_bytes n) e.0)
        → ◌≡◌ {A = Result Name Errno} (Ok r) (shown_read C v dir e s)
    shown_encoded n r p q h g =
        ap (λ (x : Name). Ok x)
        (g ∙ ap (λ (x : Name). packed (encoded (name_bytes x) e.0)) h ∙ ap (λ (b : Bytes). packed (encoded b e.0)) (name_bytes_packed s))
        ∙ sym (shown_cases true false p q)

    pub shown_decrypted : (n : Name) (key : Bytes) (r : Result Name Errno) → dir.encrypted ≡ true → key_present v dir ≡ true → n ≡ packed s → key ≡ name_key C v dir
        → r ≡ read_padded dir.context.policy.flags (C.decrypt_name key (name_bytes n)) → r ≡ shown_read C v dir e s
    shown_decrypted n key r p q h d g = g ∙ read_with C v dir s n key h d ∙ read_whole C v dir s ∙ sym (shown_cases true true p q)

-- the search for a name as its directory stores it
pub entry_by : (C : Cipher) (v : Volume) (p : InodeNumber) (n : Bytes) (dir : Inode) (s : Name) (r : Option EntryNumber) → dir ≡ inode_at v p → s ≡ packed (stored C v dir n)
    → r ≡ entry_found (entry_named v p (name_bytes s)) → r ≡ entry_found (entry_named v p (stored C v (inode_at v p) n))
entry_by C v p n dir s r d e h =
    h ∙ ap (λ (b : Bytes). entry_found (entry_named v p b)) (ap name_bytes e ∙ name_bytes_packed (stored C v dir n) ∙ ap (λ (x : Inode). stored C v x n) d)
