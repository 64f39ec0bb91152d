-- Each request's table of checks is passed exactly on its occasion: line by line, by what the tests mean. Assumes nothing.
use Prim.Native.Nat.{ℕ, ◌≤◌, ◌<◌}
use native.Mathlib.Omega.{arith}
use mathlib.Core.Path.{◌≡◌, refl, sym, ◌∙◌, ap}
use mathlib.Core.Logic.{◌≢◌, ◌↔◌}
use mathlib.Core.Bool.{true, false, true≢false}
use lib.ListN.{length}
use lib.Dec.{leb, ltb}
use borrow.Author.Tests.{eq-eqb}
use Rattle.lists.specs.Bytes.{Bytes}
use Rattle.policy.specs.Policies.{read_policy, policy_in}
use Rattle.policy.proofs.Meanings.{same_policy_lem}
use Rattle.fscrypt.specs.Cipher.{Cipher}
use Rattle.fscrypt.specs.Names.{name_check}
use Rattle.fscrypt.specs.Meanings.{PlainName, Multiple, ReadAs}
use Rattle.fscrypt.proofs.NameMeanings.{name_check_fine}
use Rattle.fscrypt.proofs.PaddingMeanings.{multiple_row, padding_check_fine}
use Rattle.volume.specs.Volume.{key_slots, inode_slots, entry_slots}
use Rattle.volume.specs.Lookup.{key_slot_of, free_key_slot, lacks_key, inode_at, free_inode, is_borne, entry_at, free_entry, entry_named, is_taken, has_entries, is_under_itself, dir_of}
use Rattle.volume.specs.DirectoryNames.{name_key, read_name, is_unreadable}
use Rattle.volume.specs.Checks.{directory_check, is_bad_kind, is_bad_key_length, is_nonce_needed, nonce_check, add_key_check, remove_key_check, set_policy_check, get_policy_check, create_check, link_check, rename_check, exchange_check, remove_check, find_check, show_check, block_check}
use Rattle.volume.specs.Sound.{Sound, KeyLength, EntryIn}
use Rattle.volume.specs.Meanings.{KeySlotFree, KeyHeld, KeyPresent, LacksKey, InodeFree, NonceBorne, EntryFree, NameTaken, Meanings}
use Rattle.volume.specs.DoneWhen.{AddKeyDone, SetPolicyDone, NotUnder, CreateDone, LinkDone, RenameDone, ExchangeDone, FindDone, ShowDone, RemoveDone, BlockDone}
use Rattle.ids.specs.declared.InodeNumber.{InodeNumber}
use Rattle.ids.specs.declared.EntryNumber.{EntryNumber}
use Rattle.volume.specs.declared.Inode.{Inode}
use Rattle.volume.specs.declared.Volume.{Volume}
use Rattle.errno.proofs.ChainMeanings.{table_passes as line, line_passes as test}
use Rattle.volume.proofs.Passed.{key_present_lem}
use Rattle.lists.proofs.Searches.{equal, fails}
use Rattle.volume.proofs.PlainMeanings.{plain_meanings}
use Rattle.volume.proofs.Meanings.{meanings}
use Rattle.volume.proofs.DoneWhenLines.{negated, differ, at_least, found, after, choice, room, may_hold_is, policy_read, name_read}
use Rattle.errno.specs.Refusals.{fine}

module _ (C : Cipher) (v : Volume) (s : Sound v) where
  means : Meanings v
  means = meanings v s

  -- ---- the lines of the tables

  key_size : (n : ℕ) → (is_bad_key_length n ≡ false) ↔ KeyLength n
  key_size = plain_meanings.key_length

  not_held : (d : Bytes) → (ltb (key_slot_of v d) key_slots ≡ false) ↔ (KeyHeld v d → ⊥)
  not_held d = fails _ (means.key_held d)

  held : (d : Bytes) → (leb key_slots (key_slot_of v d) ≡ false) ↔ KeyHeld v d
  held d = found (key_slot_of v d) key_slots (means.key_held d)

  key_room : (leb key_slots (free_key_slot v) ≡ false) ↔ ((k : ℕ) × (k < key_slots) × KeySlotFree v k)
  key_room = room key_slots (free_key_slot v) means.lowest_key_slot means.keyring_full

  key_there : (i : Inode) → (lacks_key v i ≡ false) ↔ (LacksKey v i → ⊥)
  key_there i = fails _ (means.key_lacking i)

  known_kind : (k : ℕ) → (is_bad_kind k ≡ false) ↔ ((1 ≤ k) × (k ≤ 4))
  known_kind = plain_meanings.kind

  needed : (dir : Inode) (k : ℕ) → (is_nonce_needed dir k ≡ true) ↔ ((dir.encrypted ≡ true) × (k ≤ 3))
  needed = plain_meanings.nonce_needed

  not_borne : (x : Bytes) → (is_borne v x ≡ false) ↔ (NonceBorne v x → ⊥)
  not_borne x = fails _ (means.nonce_borne x)

  inode_room : (leb inode_slots (free_inode v) ≡ false) ↔ ((i : ℕ) × (i < inode_slots) × InodeFree v i)
  inode_room = room inode_slots (free_inode v) means.lowest_inode means.inodes_full

  entry_room : (leb entry_slots (free_entry v) ≡ false) ↔ ((e : ℕ) × (e < entry_slots) × EntryFree v e)
  entry_room = room entry_slots (free_entry v) means.lowest_entry means.entries_full

  plain_name : (n : Bytes) → (name_check n ≡ fine) ↔ PlainName n
  plain_name = name_check_fine

  directory : (p : InodeNumber) → (directory_check v p ≡ fine) ↔ ((inode_at v p).kind ≡ 1)
  directory = means.parent_fine

  not_taken : (p : InodeNumber) (n : Bytes) → (is_taken v p n ≡ false) ↔ (NameTaken v p n → ⊥)
  not_taken p n = fails _ (means.name_taken p n)

  taken : (p : InodeNumber) (n : Bytes) → (leb entry_slots (entry_named v p n) ≡ false) ↔ NameTaken v p n
  taken p n = found (entry_named v p n) entry_slots (means.name_taken p n)

  empty : (p : InodeNumber) → (has_entries v p ≡ false) ↔ ((e : ℕ) → EntryIn v p e → ⊥)
  empty p = let w = fails _ (means.has_entries_lem p) in (λ h e i. w.0 h (e, i), λ f. w.1 (λ q. f q.0 q.1))

  not_under : (moved p : InodeNumber) → (inode_at v p).kind ≡ 1 → (is_under_itself v moved p ≡ false) ↔ NotUnder v moved p
  not_under moved p d = let w = fails _ (means.under_itself moved p d) in (λ h k b. w.0 h (k, b), λ f. w.1 (λ q. f q.0 q.1))

  -- a directory that has a context has flags of the table
  readable : (p : InodeNumber) (n : Bytes) → (is_unreadable C v (inode_at v p) n ≡ false)
      ↔ ((inode_at v p).encrypted ≡ true → KeyPresent v (inode_at v p) → (q : ℕ) → Multiple (inode_at v p).context.policy.flags q
      → (m : Bytes) × ReadAs q (C.decrypt_name (name_key C v (inode_at v p)) n) m)
  unfolding is_unreadable read_name
  readable p n = (
    λ h e k q m. (padding_check_fine _ q _ m).0 ((simp (after, negated, name_read, means.key_present_lem) at h) e k),
    λ f.
        simp (after, negated, name_read, means.key_present_lem)
        λ e k.
        let w = multiple_row _ (s.contexts_valid p.0 e).flags in
        (padding_check_fine _ _ _ w).1 (f e k _ w),
  )

  ruleset lines = (line, test, negated, equal, differ, choice, may_hold_is, same_policy_lem, plain_name, key_size, not_held, held, key_there, known_kind, needed, not_borne, directory, not_taken, taken, empty, readable)

  -- ---- keys

  pub add_key_when : (d key : Bytes) → (add_key_check v d (length key) ≡ fine) ↔ AddKeyDone v d key
  unfolding add_key_check
  add_key_when d key = (
    λ h.
        let (size, (new, (room, end))) = simp (lines, key_room) at h in
        record { size = size; new = new; room = room },
    λ w. simp (lines, key_room) (w.size, (w.new, (w.room, refl))),
  )

  pub remove_key_when : (d : Bytes) → (remove_key_check v d ≡ fine) ↔ KeyHeld v d
  unfolding remove_key_check
  remove_key_when d = (λ h. (simp lines at h).0, λ w. simp lines (w, refl))

  -- ---- policies

  pub set_policy_when : (i : InodeNumber) (b x : Bytes) → (set_policy_check v i b x ≡ fine) ↔ SetPolicyDone v i b x
  unfolding set_policy_check nonce_check
  set_policy_when i b x = (
    λ h.
        let (inode, (policy, (equal, first))) = simp lines at h in
        let w = (policy_read b (policy_in (read_policy b))).0 (policy, refl) in
        record {
          inode = inode;
          policy = policy_in (read_policy b);
          read = w.0;
          valid = w.1;
          equal = λ e. (equal e).0;
          first = λ f.
              let (not_root, (dir, (empty, (nonce, end)))) = first f in
              record { not_root = not_root; directory = dir; empty = empty; new_nonce = nonce };
        },
    λ w.
        let r = (policy_read b w.policy).1 (w.read, w.valid) in
        let first = w.first in
        simp lines
        (w.inode, (r.0, (λ e. (w.equal e ∙ sym r.1, refl), λ f. ((first f).not_root, ((first f).directory, ((first f).empty, ((first f).new_nonce, refl))))))),
  )

  -- a free inode has no context
  pub get_policy_when : (i : InodeNumber) → (get_policy_check v i ≡ fine) ↔ ((inode_at v i).encrypted ≡ true)
  unfolding get_policy_check
  get_policy_when i = (
    λ h. let (inode, (context, end)) = simp lines at h in context,
    λ w. simp lines (λ z. true≢false (sym w ∙ ap (λ (n : Inode). n.encrypted) (s.free_inodes i.0 (eq-eqb _ _ z))), (w, refl)),
  )

  -- ---- names

  pub create_when : (p : InodeNumber) (k : ℕ) (n x : Bytes) → (create_check C v p k n x ≡ fine) ↔ CreateDone C v p k n x
  unfolding create_check nonce_check
  create_when p k n x = (
    λ h.
        let (name, (kind, (dir, (key, (free, ((nonce, other), (inode, (entry, end)))))))) = simp (lines, inode_room, entry_room) at h in
        record {
          name = record { plain = name; directory = dir; key = key; new = free };
          known_kind = kind;
          new_nonce = λ e small. (nonce (e, small)).0;
          inode_room = inode;
          entry_room = entry;
        },
    λ w.
        simp (lines, inode_room, entry_room)
        (w.name.plain, (w.known_kind, (w.name.directory, (w.name.key, (w.name.new, ((λ q. (w.new_nonce q.0 q.1, refl), λ f. refl), (w.inode_room, (w.entry_room, refl)))))))),
  )

  pub link_when : (i p : InodeNumber) (n : Bytes) → (link_check C v i p n ≡ fine) ↔ LinkDone C v i p n
  unfolding link_check
  link_when i p n = (
    λ h.
        let (name, (inode, (dir, (other, (key, (policy, (free, (entry, end)))))))) = simp (lines, entry_room) at h in
        record { name = record { plain = name; directory = dir; key = key; new = free }; inode = inode; no_directory = other; policy = policy; room = entry },
    λ w. simp (lines, entry_room) (w.name.plain, (w.inode, (w.name.directory, (w.no_directory, (w.name.key, (w.policy, (w.name.new, (w.room, refl)))))))),
  )

  pub rename_when : (e : EntryNumber) (p : InodeNumber) (n : Bytes) → (rename_check C v e p n ≡ fine) ↔ RenameDone C v e p n
  unfolding rename_check
  rename_when e p n = (
    λ h.
        let (name, (entry, (dir, (old, (key, (policy, (under, (free, end)))))))) = simp lines at h in
        record {
          name = record { plain = name; directory = dir; key = key; new = free };
          entry = entry;
          old_key = old;
          policy = policy;
          not_under = (not_under _ p dir).0 under;
        },
    λ w.
        simp lines
        (w.name.plain, (w.entry, (w.name.directory, (w.old_key, (w.name.key, (w.policy, ((not_under _ p w.name.directory).1 w.not_under, (w.name.new, refl)))))))),
  )

  -- an entry in use stands in a directory
  pub exchange_when : (a b : EntryNumber) → (exchange_check v a b ≡ fine) ↔ ExchangeDone v a b
  unfolding exchange_check
  exchange_when a b = (
    λ h.
        let (one, (other, (key₁, (key₂, (policy₁, (policy₂, (under₁, (under₂, end)))))))) = simp lines at h in
        record {
          one = one;
          other = other;
          one_key = key₁;
          other_key = key₂;
          one_policy = policy₁;
          other_policy = policy₂;
          one_not_under = (not_under _ _ (parent b other)).0 under₁;
          other_not_under = (not_under _ _ (parent a one)).0 under₂;
        },
    λ w.
        simp lines (
          w.one,
          (
            w.other,
            (
              w.one_key,
              (
                w.other_key,
                (
                  w.one_policy,
                  (
                    w.other_policy,
                    ((not_under _ _ (parent b w.other)).1 w.one_not_under, ((not_under _ _ (parent a w.one)).1 w.other_not_under, refl)),
                  ),
                ),
              ),
            ),
          ),
        ),
  )
    where
      parent : (e : EntryNumber) → (entry_at v e).len ≢ 0 → (dir_of v e.0).kind ≡ 1
      parent e u = s.parents e.0 ((differ _ _).1 u)

  pub remove_when : (e : EntryNumber) → (remove_check v e ≡ fine) ↔ RemoveDone v e
  unfolding remove_check
  remove_when e = (
    λ h. let (entry, (empty, end)) = simp lines at h in record { entry = entry; empty = empty },
    λ w. simp lines (w.entry, (w.empty, refl)),
  )

  pub find_when : (p : InodeNumber) (n : Bytes) → (find_check C v p n ≡ fine) ↔ FindDone C v p n
  unfolding find_check
  find_when p n = (
    λ h.
        let (name, (dir, (key, (there, end)))) = simp lines at h in
        record { plain = name; directory = dir; key = key; there = there },
    λ w. simp lines (w.plain, (w.directory, (w.key, (w.there, refl)))),
  )

  pub show_when : (e : EntryNumber) (b : Bytes) → (show_check C v e (length b) ≡ fine) ↔ ShowDone C v e b
  unfolding show_check
  show_when e b = (
    λ h.
        let (room, (entry, (readable, end))) = simp (lines, at_least) at h in
        record { room = room; entry = entry; readable = readable },
    λ w. simp (lines, at_least) (w.room, (w.entry, (w.readable, refl))),
  )

  -- ---- blocks

  pub block_when : (i : InodeNumber) (b : Bytes) → (block_check v i (length b) ≡ fine) ↔ BlockDone v i b
  unfolding block_check
  block_when i b = (
    λ h.
        let (size, (inode, (regular, (context, (key, end))))) = simp lines at h in
        record { size = size; regular = regular; encrypted = context; key = (means.key_present_lem (inode_at v i)).0 (key_present_lem v (inode_at v i) context ((key_there _).1 key)) },
    λ w.
        simp lines
        (w.size, (λ z. absurd (let r = w.regular in omega arith), (w.regular, (w.encrypted, (λ lacks. lacks.1 w.key, refl))))),
  )
