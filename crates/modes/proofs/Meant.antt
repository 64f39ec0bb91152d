-- What the definitions of the modes come to: the laws of Numbers, Alpha and CtsSwapped. Assumes nothing.
use Rattle.modes.specs.Meanings.{ModeMeanings}
use Rattle.modes.proofs.Numbers as numbers
use Rattle.modes.proofs.Alpha as alpha
use Rattle.modes.proofs.CtsSwapped as swapped

pub mode_meanings : ModeMeanings
mode_meanings = record {
  number_byte = numbers.number_byte;
  number_zeros = numbers.number_zeros;
  number_own = numbers.number_own;
  times_x = alpha.times_x;
  stolen = swapped.stolen;
}
