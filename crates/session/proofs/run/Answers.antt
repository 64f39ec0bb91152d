-- `run`: the session that was begun ends with what is kept of the last line. Assumes nothing.
use Rattle.session.proofs.Feeding.{begun_none, begun_ran}
use Rattle.session.proofs.run.Goals as goal

pub take_all-requires : goal.take_all-requires
take_all-requires g c = begun_none c.zeros-line.result _ c.fresh.ensures

pub returns : goal.returns
returns g c = begun_ran c.take_all.new.self c.answer_kept-len.new.self _ c.take_all.ensures c.answer_kept-len.ensures.ends
