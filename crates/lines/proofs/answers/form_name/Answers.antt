-- `form_name`: a name for each form. Assumes nothing.
use Rattle.lines.proofs.answers.form_name.Goals as goal

pub returns-in-Plain-clause-name : goal.returns-in-Plain-clause-name
returns-in-Plain-clause-name c = rw c.in-Plain.is

pub returns-in-Decrypted-clause-name : goal.returns-in-Decrypted-clause-name
returns-in-Decrypted-clause-name c = rw c.in-Decrypted.is

pub returns-in-Encoded-clause-name : goal.returns-in-Encoded-clause-name
returns-in-Encoded-clause-name c = rw c.in-Encoded.is
