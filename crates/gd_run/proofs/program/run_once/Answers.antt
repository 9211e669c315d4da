use Rattle.std.proofs.Common.{ap, map}
use Rattle.std.specs.String.{string_bytes}
use Rattle.gd_run.proofs.Ended.{calls_few, ends_of}
use Rattle.gd_run.proofs.program.run_once.Goals as goal

pub returns-clause-ends : goal.returns-clause-ends
returns-clause-ends g c =
    ends_of (record {
      words = map string_bytes c.args.words.now;
      shelf_tells = g.S.Shelf.tells;
      sink_tells = g.O.Sink.tells;
      old = g.S.Shelf.holds c.args.shelf.now;
      new = g.S.Shelf.holds c.end.new.shelf;
      failed = g.S.Shelf.failed c.end.new.shelf;
      before = g.O.Sink.written c.args.out.now;
      now = g.O.Sink.written c.end.new.out;
      shelf_faults = (g.S.Shelf.faults c.args.shelf.now, g.S.Shelf.faults c.end.new.shelf);
      sink_faults = (g.O.Sink.faults c.args.out.now, g.O.Sink.faults c.end.new.out);
    }) (g.S.Shelf.holds c.answer_to-answer.new.shelf) (g.S.Shelf.failed c.answer_to-answer.new.shelf) (g.S.Shelf.faults c.answer_to-answer.new.shelf) c.answer_to-answer.result c.end.result (record {
      is = c.answer_to-answer.ensures.answer;
      possible = c.answer_to-answer.ensures.kind;
      unread = c.answer_to-answer.ensures.unread;
      same = c.answer_to-answer.ensures.same;
      later = c.answer_to-answer.ensures.later;
      ends = λ no. c.end.ensures.ends no.0 no.1 no.2;
      written = λ t no. c.end.ensures.written t no.0 no.1 no.2;
      stored = λ t no. c.end.ensures.stored t no.0 no.1 no.2;
      unread_put = c.end.ensures.unread;
      untouched = λ u. let same = c.end.ensures.untouched u in (λ name. ap (λ s. g.S.Shelf.holds s name) same, ap g.S.Shelf.failed same, ap g.S.Shelf.faults same);
      unwritten = c.end.ensures.unwritten;
      silent = c.end.ensures.silent;
      want = c.end.ensures.want;
      none = c.end.ensures.none;
    })

pub returns-clause-calls : goal.returns-clause-calls
returns-clause-calls g c =
    calls_few (map string_bytes c.args.words.now) c.answer_to-answer.result _ (g.S.Shelf.calls c.args.shelf.now) (g.S.Shelf.calls c.answer_to-answer.new.shelf) (g.S.Shelf.calls c.end.new.shelf) c.answer_to-answer.ensures.calls c.answer_to-answer.ensures.kind c.end.ensures.calls
