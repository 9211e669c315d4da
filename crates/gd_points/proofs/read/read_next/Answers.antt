use Rattle.csv.specs.Records.{fields_of}
use Rattle.gd_points.proofs.Records.{next}
use Rattle.gd_points.proofs.read.read_next.Goals as goal

pub returns : goal.returns
returns c =
    next c.args.reader.now c.read_byte_record.new.self (fields_of c.read_byte_record.new.row) c.in-Ok.found c.requires
    ((rw c.in-Ok.is at c.read_byte_record.ensures.reads) c.requires.trim c.requires.ready)
    (rw c.in-Ok.is at (c.read_byte_record.ensures.ready c.requires.trim))
