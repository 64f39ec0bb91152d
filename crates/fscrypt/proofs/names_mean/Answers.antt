-- `names_mean`: the statements of specs/Meanings.antt, from the laws of Meanings. Assumes nothing.
use Rattle.fscrypt.proofs.Meanings.{names_mean as names-mean-law}
use Rattle.fscrypt.proofs.names_mean.Goals as goal

pub returns : goal.returns
returns c = names-mean-law
