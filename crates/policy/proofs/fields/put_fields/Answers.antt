-- `put_fields`: the four bytes and then the descriptor are laid over the start. Assumes nothing.
use mathlib.Core.Path.{ap, ◌∙◌}
use mathlib.Core.List.{◌++◌}
use lib.ListN.{drop}
use borrow.Rule.Slice.PartMut.{put_mid}
use Rattle.lists.specs.Bytes.{Bytes}
use Rattle.policy.proofs.Writing.{descriptor_length, fields_put}
use Rattle.policy.proofs.fields.put_fields.Goals as goal

pub returns : goal.returns
returns c =
    let s = c.args in
    let d = c.copy_from_slice-2 in
    ap (λ (x : Bytes). put_mid 4 8 (x ++ drop 4 s.out.now) d.new.self) c.copy_from_slice.ensures.after
    ∙ fields_put s.out.now d.new.self s.first s.p (descriptor_length s.p c.well_formed.1.1.0) d.ensures.after
