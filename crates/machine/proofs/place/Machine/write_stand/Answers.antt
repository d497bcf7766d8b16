use Rattle.machine.proofs.Copies.{a_start}
use Rattle.machine.proofs.place.Machine.write_stand.Goals as goal

pub returns : goal.returns
returns c =
    let f = a_start c.args.self.now.started c.if-is_none.ensures in
    rw f.1 (record { value = c.write_stand.ensures.value; after = c.write_stand.ensures.after })
