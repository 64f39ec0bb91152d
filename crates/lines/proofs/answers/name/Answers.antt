-- `name`: a name for each number. Assumes nothing.
use Rattle.lines.specs.Answers.{errno_name}
use Rattle.lines.proofs.answers.name.Goals as goal

pub returns-in-EPERM-clause-name : goal.returns-in-EPERM-clause-name
unfolding errno_name
returns-in-EPERM-clause-name c = rw c.in-EPERM.is

pub returns-in-ENOENT-clause-name : goal.returns-in-ENOENT-clause-name
unfolding errno_name
returns-in-ENOENT-clause-name c = rw c.in-ENOENT.is

pub returns-in-EEXIST-clause-name : goal.returns-in-EEXIST-clause-name
unfolding errno_name
returns-in-EEXIST-clause-name c = rw c.in-EEXIST.is

pub returns-in-EXDEV-clause-name : goal.returns-in-EXDEV-clause-name
unfolding errno_name
returns-in-EXDEV-clause-name c = rw c.in-EXDEV.is

pub returns-in-ENOTDIR-clause-name : goal.returns-in-ENOTDIR-clause-name
unfolding errno_name
returns-in-ENOTDIR-clause-name c = rw c.in-ENOTDIR.is

pub returns-in-EINVAL-clause-name : goal.returns-in-EINVAL-clause-name
unfolding errno_name
returns-in-EINVAL-clause-name c = rw c.in-EINVAL.is

pub returns-in-ENOSPC-clause-name : goal.returns-in-ENOSPC-clause-name
unfolding errno_name
returns-in-ENOSPC-clause-name c = rw c.in-ENOSPC.is

pub returns-in-ERANGE-clause-name : goal.returns-in-ERANGE-clause-name
unfolding errno_name
returns-in-ERANGE-clause-name c = rw c.in-ERANGE.is

pub returns-in-ENAMETOOLONG-clause-name : goal.returns-in-ENAMETOOLONG-clause-name
unfolding errno_name
returns-in-ENAMETOOLONG-clause-name c = rw c.in-ENAMETOOLONG.is

pub returns-in-ENOTEMPTY-clause-name : goal.returns-in-ENOTEMPTY-clause-name
unfolding errno_name
returns-in-ENOTEMPTY-clause-name c = rw c.in-ENOTEMPTY.is

pub returns-in-ENODATA-clause-name : goal.returns-in-ENODATA-clause-name
unfolding errno_name
returns-in-ENODATA-clause-name c = rw c.in-ENODATA.is

pub returns-in-ENOTUNIQ-clause-name : goal.returns-in-ENOTUNIQ-clause-name
unfolding errno_name
returns-in-ENOTUNIQ-clause-name c = rw c.in-ENOTUNIQ.is

pub returns-in-EUCLEAN-clause-name : goal.returns-in-EUCLEAN-clause-name
unfolding errno_name
returns-in-EUCLEAN-clause-name c = rw c.in-EUCLEAN.is

pub returns-in-ENOKEY-clause-name : goal.returns-in-ENOKEY-clause-name
unfolding errno_name
returns-in-ENOKEY-clause-name c = rw c.in-ENOKEY.is
