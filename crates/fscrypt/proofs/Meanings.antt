-- specs/Meanings.antt: its statements together, from NameMeanings, PaddingMeanings and LetterMeanings. Assumes nothing.
use native.Mathlib.Omega.{arith}
use lib.ListN.{length-append}
use Rattle.lists.proofs.ByteStrings.{length_zeros}
use Rattle.fscrypt.specs.Meanings.{NameMeanings}
use Rattle.fscrypt.proofs.Padding.{length_padded, name_bytes_packed}
use Rattle.fscrypt.proofs.Lettering.{encoded_short}
use Rattle.fscrypt.proofs.NameMeanings.{name_check_fine, name_check_empty, name_check_long, name_check_bad}
use Rattle.fscrypt.proofs.PaddingMeanings.{padded_length_means, padded_means, padding_check_fine, padding_check_refused, read_one, read_padded_read, read_padded_unread, packed_rest}
use Rattle.fscrypt.proofs.LetterMeanings.{letter_means, letters_means, decoded_letters, encoded_longer, start_decoded, entry_decoded}

pub names_mean : NameMeanings
names_mean = record {
  plain = name_check_fine;
  empty = name_check_empty;
  long = name_check_long;
  bad = name_check_bad;
  length_padded = padded_length_means;
  padding = padded_means;
  stored_length = length_padded;
  read = padding_check_fine;
  unread = padding_check_refused;
  one = read_one;
  read_name = λ flags q b n M. read_padded_read flags q b M n;
  unread_name = read_padded_unread;
  unpacked = name_bytes_packed;
  packed_length = λ n h. rw (length-append, length_zeros) (omega arith);
  unused_zeros = packed_rest;
  lettered = letter_means;
  written = letters_means;
  read_back = decoded_letters;
  short = encoded_short;
  longer = encoded_longer;
  start_read_back = start_decoded;
  entry_read_back = entry_decoded;
}
