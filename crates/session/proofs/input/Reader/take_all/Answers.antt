-- `take_all`: what a chunk adds. Assumes nothing.
use Rattle.session.proofs.Feeding.{begun_more}
use Rattle.session.proofs.input.Reader.take_all.Goals as goal

pub loop-preserved : goal.loop-preserved
loop-preserved g c = begun_more c.loop.self c.take_chunk.new.self _ c.loop.invariant c.take_chunk.ensures
