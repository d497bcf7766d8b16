use Rattle.std.proofs.Common.{}
use Rattle.machine.proofs.Sorts.{is_function_then}
use Rattle.machine.proofs.Sound.{sound}
use Rattle.machine.proofs.parts.State.call.Goals as goal

pub unreachable-requires : goal.unreachable-requires
unreachable-requires c = is_function_then c.args.self.now.store.cells.items (sound c.args.self.now).store_in.cells_in c.args.function c.requires.function c.requires.kind c.in_default.not-Function
