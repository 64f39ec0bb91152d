-- specs/Meanings.antt: each statement by the cases of its tests and outcomes; a refusal is read back from its number. Assumes nothing.
use Prim.Native.Nat.{ℕ}
use mathlib.Core.Path.{◌≡◌, refl, sym, ◌∙◌, ap}
use mathlib.Core.Logic.{◌↔◌, ◌⊎◌, inl, inr}
use mathlib.Core.Bool.{Bool, true, false, cond, true≢false, false≢true}
use lib.Dec.{eqb}
use Rattle.errno.specs.Refusals.{Checked, fine, refuse, number, ◌⇒◌, ◌>>◌, is_fine}
use Rattle.errno.specs.Meanings.{TableMeanings}
use Rattle.errno.specs.declared.Errno.{Errno}
use Rattle.errno.specs.declared.Errno.TheVariants.{EPERM, ENOENT, EEXIST, EXDEV, ENOTDIR, EINVAL, ENOSPC, ERANGE, ENAMETOOLONG, ENOTEMPTY, ENODATA, ENOTUNIQ, EUCLEAN, ENOKEY}
use Rattle.std.specs.declared.result.Result.TheVariants.{Ok, Err}

-- ---- a refusal is read back from its number

abbrev is : ℕ → Errno → Bool
is n e = eqb n (number e)

abbrev named : ℕ → Errno
named n =
    cond (is n EPERM) EPERM (cond (is n ENOENT) ENOENT (cond (is n EEXIST) EEXIST (cond (is n EXDEV) EXDEV (cond (is n ENOTDIR) ENOTDIR
    (cond (is n EINVAL) EINVAL (cond (is n ENOSPC) ENOSPC (cond (is n ERANGE) ERANGE (cond (is n ENAMETOOLONG) ENAMETOOLONG (cond (is n ENOTEMPTY) ENOTEMPTY
    (cond (is n ENODATA) ENODATA (cond (is n ENOTUNIQ) ENOTUNIQ (cond (is n EUCLEAN) EUCLEAN ENOKEY))))))))))))

named_number : (e : Errno) → named (number e) ≡ e
named_number EPERM = refl
named_number ENOENT = refl
named_number EEXIST = refl
named_number EXDEV = refl
named_number ENOTDIR = refl
named_number EINVAL = refl
named_number ENOSPC = refl
named_number ERANGE = refl
named_number ENAMETOOLONG = refl
named_number ENOTEMPTY = refl
named_number ENODATA = refl
named_number ENOTUNIQ = refl
named_number EUCLEAN = refl
named_number ENOKEY = refl

pub number_means : (e e' : Errno) → (number e ≡ number e') ↔ (e ≡ e')
number_means e e' = (λ h. sym (named_number e) ∙ ap named h ∙ named_number e', λ h. ap number h)

-- ---- outcomes

pub refused_not_fine : (e : Errno) → refuse e ≡ fine → ⊥
refused_not_fine e h = false≢true (ap is_fine h)

pub is_fine_means : (c : Checked) → (is_fine c ≡ true) ↔ (c ≡ fine)
is_fine_means (Ok _) = (λ h. refl, λ h. refl)
is_fine_means (Err e) = (λ h. absurd (false≢true h), λ h. ap is_fine h)

pub line_refuses : (t : Bool) (e e' : Errno) → ((t ⇒ e) ≡ refuse e') ↔ ((t ≡ true) × (e ≡ e'))
unfolding ◌⇒◌
line_refuses true e e' = (λ h. (refl, cc), λ h. ap refuse h.1)
line_refuses false e e' = (λ h. absurd (refused_not_fine e' (sym h)), λ h. absurd (false≢true h.0))

pub line_passes : (t : Bool) (e : Errno) → ((t ⇒ e) ≡ fine) ↔ (t ≡ false)
unfolding ◌⇒◌
line_passes true e = (λ h. absurd (refused_not_fine e h), λ h. absurd (true≢false h))
line_passes false e = (λ h. refl, λ h. refl)

pub table_refuses : (a b : Checked) (e : Errno) → (◌>>◌ a b ≡ refuse e) ↔ ((a ≡ refuse e) ⊎ ((a ≡ fine) × (b ≡ refuse e)))
unfolding ◌>>◌
table_refuses (Err d) b e = (λ h. inl h, go)
  where
    go : (refuse d ≡ refuse e) ⊎ ((refuse d ≡ fine) × (b ≡ refuse e)) → refuse d ≡ refuse e
    go (inl h) = h
    go (inr h) = absurd (refused_not_fine d h.0)
table_refuses (Ok _) b e = (λ h. inr (refl, h), go)
  where
    go : (fine ≡ refuse e) ⊎ ((fine ≡ fine) × (b ≡ refuse e)) → b ≡ refuse e
    go (inl h) = absurd (refused_not_fine e (sym h))
    go (inr h) = h.1

pub table_passes : (a b : Checked) → (◌>>◌ a b ≡ fine) ↔ ((a ≡ fine) × (b ≡ fine))
unfolding ◌>>◌
table_passes (Err e) b = (λ h. absurd (refused_not_fine e h), λ h. absurd (refused_not_fine e h.0))
table_passes (Ok _) b = (λ h. (refl, h), λ h. h.1)

pub tables_mean : TableMeanings
tables_mean = record {
  numbered = number_means;
  passed = is_fine_means;
  line_refuses = line_refuses;
  line_passes = line_passes;
  table_refuses = table_refuses;
  table_passes = table_passes;
}
