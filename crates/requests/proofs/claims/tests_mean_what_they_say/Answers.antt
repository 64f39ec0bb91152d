-- `tests_mean_what_they_say`: each crate's theorem, and `meanings` of volume for every sound volume, as those are that requests made. Assumes nothing.
use Rattle.lists.proofs.ByteMeanings.{bytes_mean}
use Rattle.errno.proofs.ChainMeanings.{tables_mean}
use Rattle.policy.proofs.Meanings.{policy_meanings}
use Rattle.fscrypt.specs.Cipher.{fscrypt}
use Rattle.fscrypt.proofs.Meanings.{names_mean}
use Rattle.fscrypt.proofs.Lawfulness.{fscrypt_lawful}
use Rattle.volume.specs.Volume.{fresh}
use Rattle.volume.proofs.Soundness.{fresh_sound, sound}
use Rattle.volume.proofs.PlainMeanings.{plain_meanings}
use Rattle.volume.proofs.Meanings.{meanings}
use Rattle.requests.proofs.claims.tests_mean_what_they_say.Goals as goal

pub returns : goal.returns
returns c = record {
  byte_strings = bytes_mean;
  tables = tables_mean;
  policies = policy_meanings;
  names = names_mean;
  plain = plain_meanings;
  on_fresh = meanings fresh fresh_sound;
  on_every = λ rs t m h. meanings m.volume (sound fscrypt fscrypt_lawful rs t m h);
}
