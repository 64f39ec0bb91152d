-- `bytes_mean`: the statements of specs/Meanings.antt, from ByteMeanings. Assumes nothing.
use Rattle.lists.proofs.ByteMeanings.{bytes_mean as bytes-mean-law}
use Rattle.lists.proofs.bytes_mean.Goals as goal

pub returns : goal.returns
returns c = bytes-mean-law
