-- `tables_mean`: the statements of specs/Meanings.antt, from ChainMeanings. Assumes nothing.
use Rattle.errno.proofs.ChainMeanings.{tables_mean as tables-mean-law}
use Rattle.errno.proofs.tables_mean.Goals as goal

pub returns : goal.returns
returns c = tables-mean-law
