-- When a request is refused with a given number: exactly when its table comes to that refusal; and when a table does, line by line: the parts above have passed, and the
-- tests of its own lines say when. All of it over the refusal, in both directions. Which requests may answer EXDEV or EPERM: a view. Assumes nothing.
use mathlib.Core.Path.{◌≡◌, refl, sym, ap}
use mathlib.Core.Logic.{◌⊎◌, inl, inr, ◌↔◌}
use mathlib.Core.Bool.{Bool, true, false, cond, true≢false}
use lib.Dec.{eqb}
use borrow.Author.Tests.{eqb-false}
use Rattle.lists.specs.Bytes.{Bytes}
use Rattle.errno.specs.Refusals.{Checked, fine, refuse, number, ◌⇒◌, ◌>>◌}
use Rattle.errno.specs.declared.Errno.{Errno}
use Rattle.errno.specs.declared.Errno.TheVariants.{EPERM, ENOENT, EXDEV, ENOTDIR, EINVAL, ENAMETOOLONG, ENOTUNIQ}
use Rattle.errno.proofs.ChainMeanings.{number_means, refused_not_fine, line_refuses, line_passes, table_refuses}
use Rattle.policy.specs.Policies.{policy_check}
use Rattle.fscrypt.specs.Cipher.{Cipher}
use Rattle.fscrypt.specs.Names.{name_check}
use Rattle.volume.specs.Request.{Request, add_key, remove_key, set_policy, get_policy, create, link, rename, exchange, remove, find, show, seal, unseal, refused}
use Rattle.volume.specs.Checks.{directory_check, nonce_check, add_key_check, remove_key_check, set_policy_check, get_policy_check, create_check, rename_check, exchange_check, remove_check, find_check, show_check, block_check}
use Rattle.volume.specs.Step.{lent, check, effect, settle, step}
use Rattle.ids.specs.declared.InodeNumber.{InodeNumber}
use Rattle.ids.specs.declared.EntryNumber.{EntryNumber}
use Rattle.volume.specs.declared.Volume.{Volume}
use Rattle.volume.proofs.Touching.{never_refused}
use Rattle.std.specs.declared.result.Result.TheVariants.{Ok, Err}

-- no effect answers a refusal, so the number is the table's
pub refused_by : (C : Cipher) (v : Volume) (r : Request) (x : Errno) → ((step C v r).answer ≡ refused (number x)) ↔ (check C v r ≡ refuse x)
unfolding step settle
refused_by C v r x = go (check C v r)
  where
    go : (k : Checked) → ((settle v (lent r) k (effect C v r)).answer ≡ refused (number x)) ↔ (k ≡ refuse x)
    go (Err e) = (λ h. let n : number e ≡ number x = cc in ap refuse ((number_means e x).0 n), λ h. let n : e ≡ x = cc in ap (λ (y : Errno). refused (number y)) n)
    go (Ok _) = (λ h. absurd (never_refused C v r (number x) h), λ h. absurd (refused_not_fine x (sym h)))

-- ---- a table that does not come to a refusal

pub record Never (x : Errno) (k : Checked) : Type 0 where
  pub no : k ≡ refuse x → ⊥

pub never_fine : (x : Errno) → Never x fine
never_fine x = record { no = λ h. refused_not_fine x (sym h) }

-- a line with another number
pub never_line : (x e : Errno) (t : Bool) → eqb (number e) (number x) ≡ false → Never x (t ⇒ e)
never_line x e t other = record { no = λ h. eqb-false (number e) (number x) other (ap number ((line_refuses t e x).0 h).1) }

pub never_then : (x : Errno) (a b : Checked) → Never x a → Never x b → Never x (◌>>◌ a b)
never_then x a b f g = record { no = λ h. go ((table_refuses a b x).0 h) }
  where
    go : (a ≡ refuse x) ⊎ ((a ≡ fine) × (b ≡ refuse x)) → ⊥
    go (inl c) = f.no c
    go (inr c) = g.no c.1

pub never_choice : (x : Errno) (t : Bool) (a b : Checked) → Never x a → Never x b → Never x (cond t a b)
never_choice x true a b f g = f
never_choice x false a b f g = g

pub ruleset nevers = (never_then, never_line, never_fine, never_choice, refl)

-- ---- a table that comes to it

module _ {x : Errno} {b : Checked} {D : Type 0} where
  -- past a part that does not
  pub past : {a : Checked} → Never x a → ((b ≡ refuse x) ↔ D) → (◌>>◌ a b ≡ refuse x) ↔ ((a ≡ fine) × D)
  past {a} f w = (λ h. go ((table_refuses a b x).0 h), λ d. (table_refuses a b x).1 (inr (d.0, w.1 d.1)))
    where
      go : (a ≡ refuse x) ⊎ ((a ≡ fine) × (b ≡ refuse x)) → (a ≡ fine) × D
      go (inl c) = absurd (f.no c)
      go (inr c) = (c.0, w.0 c.1)

  -- past a line with another number
  pub past_line : {t : Bool} (e : Errno) → eqb (number e) (number x) ≡ false → ((b ≡ refuse x) ↔ D) → (◌>>◌ (t ⇒ e) b ≡ refuse x) ↔ ((t ≡ false) × D)
  past_line {t} e other w =
      let p = past (never_line x e t other) w in
      (λ h. ((line_passes t e).0 (p.0 h).0, (p.0 h).1), λ d. p.1 ((line_passes t e).1 d.0, d.1))

  -- at a line of its own: there, or below
  pub at_line : {t : Bool} → ((b ≡ refuse x) ↔ D) → (◌>>◌ (t ⇒ x) b ≡ refuse x) ↔ ((t ≡ true) ⊎ ((t ≡ false) × D))
  at_line {t} w = (λ h. to ((table_refuses (t ⇒ x) b x).0 h), λ d. (table_refuses (t ⇒ x) b x).1 (from d))
    where
      to : ((t ⇒ x) ≡ refuse x) ⊎ (((t ⇒ x) ≡ fine) × (b ≡ refuse x)) → (t ≡ true) ⊎ ((t ≡ false) × D)
      to (inl c) = inl ((line_refuses t x x).0 c).0
      to (inr c) = inr ((line_passes t x).0 c.0, w.0 c.1)

      from : (t ≡ true) ⊎ ((t ≡ false) × D) → ((t ⇒ x) ≡ refuse x) ⊎ (((t ⇒ x) ≡ fine) × (b ≡ refuse x))
      from (inl h) = inl ((line_refuses t x x).1 (h, refl))
      from (inr d) = inr ((line_passes t x).1 d.0, w.1 d.1)

-- at the last line of its own: there
pub at_last_line : {x : Errno} {b : Checked} {t : Bool} → Never x b → (◌>>◌ (t ⇒ x) b ≡ refuse x) ↔ (t ≡ true)
at_last_line {x} {b} {t} f = (λ h. go (w.0 h), λ e. w.1 (inl e))
  where
    w : (◌>>◌ (t ⇒ x) b ≡ refuse x) ↔ ((t ≡ true) ⊎ ((t ≡ false) × ⊥))
    w = at_line (f.no, λ z. absurd z)

    go : (t ≡ true) ⊎ ((t ≡ false) × ⊥) → t ≡ true
    go (inl e) = e
    go (inr d) = absurd d.1

-- at the second of two tables, by a test
pub at_else : {x : Errno} {a b : Checked} {D : Type 0} (t : Bool) → Never x a → ((b ≡ refuse x) ↔ D) → (cond t a b ≡ refuse x) ↔ ((t ≡ false) × D)
at_else true f w = (λ h. absurd (f.no h), λ d. absurd (true≢false d.0))
at_else false f w = (λ h. (refl, w.0 h), λ d. w.1 d.1)

-- ---- the parts that tables share

module _ (x : Errno) where
  -- another number than this refusal's
  abbrev Other : Errno → Type 0
  Other e = eqb (number e) (number x) ≡ false

  pub name_never : (n : Bytes) → Other ENOENT → Other ENAMETOOLONG → Other EINVAL → Never x (name_check n)
  unfolding name_check
  name_never n a b c = search nevers depth 25

  pub directory_never : (v : Volume) (p : InodeNumber) → Other ENOENT → Other ENOTDIR → Never x (directory_check v p)
  unfolding directory_check
  directory_never v p a b = search nevers depth 25

  pub nonce_never : (v : Volume) (n : Bytes) → Other ENOTUNIQ → Never x (nonce_check v n)
  unfolding nonce_check
  nonce_never v n a = search nevers depth 25

  pub policy_never : (b : Bytes) → Other EINVAL → Never x (policy_check b)
  unfolding policy_check
  policy_never b a = search nevers depth 25

pub ruleset tables = (nevers, name_never, directory_never, nonce_never, policy_never)

-- ---- which requests may answer EXDEV or EPERM

pub data Gives (C : Cipher) (v : Volume) : Request → Type 0 where
  neither : (r : Request) → Never EXDEV (check C v r) → Never EPERM (check C v r) → Gives C v r
  set_policy_gives : (i : InodeNumber) (p x : Bytes) → Never EXDEV (check C v (set_policy i p x)) → Gives C v (set_policy i p x)
  link_gives : (i p : InodeNumber) (n : Bytes) → Gives C v (link i p n)
  rename_gives : (e : EntryNumber) (p : InodeNumber) (n : Bytes) → Never EPERM (check C v (rename e p n)) → Gives C v (rename e p n)
  exchange_gives : (a b : EntryNumber) → Never EPERM (check C v (exchange a b)) → Gives C v (exchange a b)

pub gives : (C : Cipher) (v : Volume) (r : Request) → Gives C v r
unfolding check add_key_check remove_key_check set_policy_check get_policy_check create_check rename_check exchange_check remove_check find_check show_check block_check
gives C v (add_key d k) = neither (add_key d k) (search tables depth 25) (search tables depth 25)
gives C v (remove_key d) = neither (remove_key d) (search tables depth 25) (search tables depth 25)
gives C v (set_policy i p x) = set_policy_gives i p x (search tables depth 25)
gives C v (get_policy i) = neither (get_policy i) (search tables depth 25) (search tables depth 25)
gives C v (create p kind n x) = neither (create p kind n x) (search tables depth 25) (search tables depth 25)
gives C v (link i p n) = link_gives i p n
gives C v (rename e p n) = rename_gives e p n (search tables depth 25)
gives C v (exchange a b) = exchange_gives a b (search tables depth 25)
gives C v (remove e) = neither (remove e) (search tables depth 25) (search tables depth 25)
gives C v (find p n) = neither (find p n) (search tables depth 25) (search tables depth 25)
gives C v (show e b) = neither (show e b) (search tables depth 25) (search tables depth 25)
gives C v (seal i n b) = neither (seal i n b) (search tables depth 25) (search tables depth 25)
gives C v (unseal i n b) = neither (unseal i n b) (search tables depth 25) (search tables depth 25)
