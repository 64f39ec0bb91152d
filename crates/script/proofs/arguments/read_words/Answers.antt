-- `read_words`: the goals that the search leaves: one word more. Assumes nothing.
use Rattle.std.proofs.Common.{refl, ap, ◌∙◌, length, arith}
use Rattle.lists.specs.Bytes.{zeros}
use Rattle.script.specs.declared.Sort.TheVariants.{First}
use Rattle.script.proofs.Lines.{after_word_length}
use Rattle.script.proofs.Taking.{onward, onward_next, left_next}
use Rattle.script.proofs.arguments.read_words.Goals as goal

pub loop-sort-preserved : goal.loop-sort-preserved
unfolding zeros
loop-sort-preserved c =
    let l = c.loop-sort in
    let split = c.split.ensures in
    let more = c.take_word-more.ensures in
    let so_far = c.unwrap_or.ensures in
    record {
      room = omega (arith, l.invariant.room, ap length split.rest, after_word_length l.left.now);
      left = left_next c.args.shape.now l.sort-index First _ _ _ _ _ c.loop-sort-test.true split.word split.rest more.left ∙ l.invariant.left;
      read = ap (onward _ _ _) c.and-args.ensures
          ∙ onward_next l.args _ c.args.shape.now l.sort-index First _ _ _ _ _ c.loop-sort-test.true split.word split.rest (more.read ∙ rw (so_far) refl) ∙ l.invariant.read;
    }
