-- The refusals of document 01's table, and tables of checks. Assumes nothing.
use Rattle.std.specs.Prelude.{ℕ, Bool, true, false, ⊤, Result, Ok, Err}
use Rattle.errno.specs.declared.Errno.{Errno}
use Rattle.errno.specs.declared.Errno.TheVariants.{EPERM, ENOENT, EEXIST, EXDEV, ENOTDIR, EINVAL, ENOSPC, ERANGE, ENAMETOOLONG, ENOTEMPTY, ENODATA, ENOTUNIQ, EUCLEAN, ENOKEY}

-- document 01: "Numbers are Linux's."; EXDEV is document 02's, Item 2
abbrev pub number : Errno → ℕ
number EPERM = 1
number ENOENT = 2
number EEXIST = 17
number EXDEV = 18
number ENOTDIR = 20
number EINVAL = 22
number ENOSPC = 28
number ERANGE = 34
number ENAMETOOLONG = 36
number ENOTEMPTY = 39
number ENODATA = 61
number ENOTUNIQ = 76
number EUCLEAN = 117
number ENOKEY = 126

-- what a chain of checks comes to: it passes, or the first check that does not pass refuses
abbrev pub Checked : Type 0
Checked = Result ⊤ Errno

abbrev pub fine : Checked
fine = Ok tt

abbrev pub refuse : Errno → Checked
refuse e = Err e

-- `test ⇒ ENOENT`: the refusal where the test holds
infix 10 ◌⇒◌
unfoldable pub ◌⇒◌ : Bool → Errno → Checked
true ⇒ e = refuse e
false ⇒ e = fine

-- a line of a table and the lines below it: the first refusal counts (document 01: "earlier checks having passed")
unfoldable pub ◌>>◌ : Checked → Checked → Checked
◌>>◌ (Err e) next = refuse e
◌>>◌ (Ok _) next = next

-- the check in a result: what stands beside it is left out
abbrev pub check_of : {A : Type 0} → Result A Errno → Checked
check_of (Ok a) = fine
check_of (Err e) = refuse e

-- the checks passed
abbrev pub is_fine : Checked → Bool
is_fine (Ok _) = true
is_fine (Err e) = false
