-- What is used behind a version that is gone back to lies within the buffer.
use Rattle.history.proofs.Inside.{back_inside}
use Rattle.history.proofs.obey.Goals as goal

pub keep-requires-in-Back : goal.keep-requires-in-Back
keep-requires-in-Back g c =
    back_inside c.args.buf.now c.args.used c.go_back-answer.new.buf c.go_back-answer.auto.buf c.in-Back.k c.go_back-answer.result c.go_back-answer.ensures.0
