-- What each request does: its check, and where that is fine its effect.
-- Sentences in quotation marks are document 01's, in its words. Assumes nothing.
use Rattle.std.specs.Prelude.{ℕ, cond, List, [], length, set, Ok, Err}
use Rattle.lists.specs.Bytes.{Bytes, laid_over}
use Rattle.errno.specs.Refusals.{Checked, number}
use Rattle.policy.specs.Policies.{policy_bytes, read_policy, policy_in}
use Rattle.fscrypt.specs.Cipher.{Cipher}
use Rattle.volume.specs.Volume.{no_key, no_inode, no_entry, plain_inode, encrypted_inode, key_slot, entry_slot, name_of}
use Rattle.volume.specs.Request.{Request, add_key, remove_key, set_policy, get_policy, create, link, rename, exchange, remove, find, show, seal, unseal, lends, lent_bytes, refused, done, created, at, policy_is, shown, Outcome, outcome}
use Rattle.volume.specs.Lookup.{key_slot_of, free_key_slot, inode_at, free_inode, entry_at, free_entry, entry_named, is_held}
use Rattle.volume.specs.DirectoryNames.{derived_key, stored, shown_name, form_in}
use Rattle.volume.specs.Checks.{is_nonce_needed, add_key_check, remove_key_check, set_policy_check, get_policy_check, create_check, link_check, rename_check, exchange_check, remove_check, find_check, show_check, block_check}
use Rattle.ids.specs.declared.InodeNumber.{InodeNumber}
use Rattle.ids.specs.declared.EntryNumber.{EntryNumber}
use Rattle.volume.specs.declared.Key.{Key}
use Rattle.volume.specs.declared.Inode.{Inode}
use Rattle.volume.specs.declared.Entry.{Entry}
use Rattle.volume.specs.declared.Volume.{Volume}

-- ---- a volume with one of its tables changed

abbrev pub with_keys : Volume → List Key → Volume
with_keys v ks = record { keys = ks; inodes = v.inodes; entries = v.entries }

abbrev pub with_inodes : Volume → List Inode → Volume
with_inodes v is = record { keys = v.keys; inodes = is; entries = v.entries }

abbrev pub with_entries : Volume → List Entry → Volume
with_entries v es = record { keys = v.keys; inodes = v.inodes; entries = es }

abbrev pub with_inode : Entry → InodeNumber → Entry
with_inode e i = record { len = e.len; parent = e.parent; inode = i; name = e.name }

-- "A child of an encrypted folder inherits its policy with the nonce given; a special child gets no context, and a child of a plain folder ignores the nonce."
unfoldable pub child_of : Inode → ℕ → Bytes → Inode
child_of dir kind x = cond (is_nonce_needed dir kind) (encrypted_inode kind dir.context.policy x) (plain_inode kind)

-- "When its last place goes, the thing goes."
unfoldable pub without_unheld : List Inode → List Entry → InodeNumber → List Inode
without_unheld is es i = cond (is_held es i) is (set is i.0 no_inode)

-- the bytes of the buffer that a request lends
unfoldable pub lent : Request → Bytes
lent r = lent_bytes (lends r)

module _ (C : Cipher) where
  unfoldable pub check : Volume → Request → Checked
  check v (add_key d k) = add_key_check v d (length k)
  check v (remove_key d) = remove_key_check v d
  check v (set_policy i p x) = set_policy_check v i p x
  check v (get_policy i) = get_policy_check v i
  check v (create p kind n x) = create_check C v p kind n x
  check v (link i p n) = link_check C v i p n
  check v (rename e p n) = rename_check C v e p n
  check v (exchange a b) = exchange_check v a b
  check v (remove e) = remove_check v e
  check v (find p n) = find_check C v p n
  check v (show e b) = show_check C v e (length b)
  check v (seal i n b) = block_check v i (length b)
  check v (unseal i n b) = block_check v i (length b)

  -- what a request does that is not refused
  unfoldable pub effect : Volume → Request → Outcome
  effect v (add_key d k) = outcome done k (with_keys v (set v.keys (free_key_slot v) (key_slot d k)))
  effect v (remove_key d) = outcome done [] (with_keys v (set v.keys (key_slot_of v d) no_key))
  -- a first policy is set on a directory, as was checked
  effect v (set_policy i p x) =
      outcome done [] (cond (inode_at v i).encrypted v (with_inodes v (set v.inodes i.0 (encrypted_inode 1 (policy_in (read_policy p)) x))))
  effect v (get_policy i) = outcome (policy_is (policy_bytes (inode_at v i).context.policy)) [] v
  effect v (create p kind n x) =
      let dir = inode_at v p in
      let i : InodeNumber = record { 0 = free_inode v } in
      let e : EntryNumber = record { 0 = free_entry v } in
      outcome (created i e) [] (record {
        keys = v.keys;
        inodes = set v.inodes i.0 (child_of dir kind x);
        entries = set v.entries e.0 (entry_slot p i (stored C v dir n));
      })
  effect v (link i p n) =
      let e : EntryNumber = record { 0 = free_entry v } in
      outcome (at e) [] (with_entries v (set v.entries e.0 (entry_slot p i (stored C v (inode_at v p) n))))
  effect v (rename e p n) =
      outcome done [] (with_entries v (set v.entries e.0 (entry_slot p (entry_at v e).inode (stored C v (inode_at v p) n))))
  effect v (exchange a b) =
      let one = entry_at v a in
      let other = entry_at v b in
      outcome done [] (with_entries v (set (set v.entries a.0 (with_inode one other.inode)) b.0 (with_inode other one.inode)))
  effect v (remove e) =
      let es = set v.entries e.0 no_entry in
      outcome done [] (record { keys = v.keys; inodes = without_unheld v.inodes es (entry_at v e).inode; entries = es })
  effect v (find p n) = outcome (at (record { 0 = entry_named v p (stored C v (inode_at v p) n) })) [] v
  effect v (show e b) =
      let x = entry_at v e in
      let dir = inode_at v x.parent in
      let n = shown_name C v dir e (name_of x) in
      outcome (shown (record { parent = x.parent; inode = x.inode; kind = (inode_at v x.inode).kind; form = form_in v dir; len = length n })) (laid_over b n) v
  effect v (seal i n b) = outcome done (C.seal (inode_at v i).context.policy.contents (derived_key C v (inode_at v i)) n b) v
  effect v (unseal i n b) = outcome done (C.unseal (inode_at v i).context.policy.contents (derived_key C v (inode_at v i)) n b) v

-- "A refusal returns its number alone and alters nothing."
unfoldable pub settle : Volume → Bytes → Checked → Outcome → Outcome
settle v b (Err e) o = outcome (refused (number e)) b v
settle v b (Ok _) o = o

module _ (C : Cipher) where
  unfoldable pub step : Volume → Request → Outcome
  step v r = settle v (lent r) (check C v r) (effect C v r)
