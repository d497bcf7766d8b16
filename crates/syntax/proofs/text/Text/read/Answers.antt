use Rattle.std.proofs.Common.{◌≡◌, true, [], length, sym, subst, rules, le-ltb}
use Rattle.instruments.specs.Sheets.{stations_of}
use Rattle.syntax.specs.Reading.{read}
use Rattle.syntax.specs.Reading.Outcome.{done}
use Rattle.syntax.specs.Views.{seen}
use Rattle.syntax.specs.Place.{tables}
use Rattle.syntax.specs.Tests.{sound_test}
use Rattle.syntax.specs.declared.table.Program.{Program}
use Rattle.syntax.proofs.Exact.{read_right, read_all, read_one}
use Rattle.syntax.proofs.Numbered.{read_sound}
use Rattle.syntax.proofs.Order.{refused_exactly, accepted_exactly}
use Rattle.syntax.proofs.Restores.{written_right}
use Rattle.syntax.proofs.Tests.{read_tested}
use Rattle.syntax.proofs.text.Text.read.Goals as goal

pub returns-then-bytes-gt65536 : goal.returns-then-bytes-gt65536
returns-then-bytes-gt65536 c = record { value = search rules; after = search rules; refuses = refused_exactly; accepts = accepted_exactly; right = read_right; all = read_all; one = read_one; restored = written_right; sound = read_sound }

pub returns-in_err-read_into : goal.returns-in_err-read_into
returns-in_err-read_into c = record { value = search rules; after = search rules; refuses = refused_exactly; accepts = accepted_exactly; right = read_right; all = read_all; one = read_one; restored = written_right; sound = read_sound }

pub invariant_of-self-2 : goal.invariant_of-self-2
invariant_of-self-2 c =
    let bs = c.args.bytes.now in
    let s = seen (tables c.read_into.new.draft) [] 0 in
    let e : read bs ≡ done s = rw (le-ltb 65536 (length bs) c.if-bytes-gt65536.false) c.in_ok-read_into.ensures in
    let P : Program → Type 0 = λ p. sound_test p.types.items p.terms.items (stations_of p.sheet) ≡ true in
    record { sound = subst P (sym c.swap.ensures.x_after) (read_tested bs s e) }

pub returns : goal.returns
returns c = record { value = search rules; after = search rules; refuses = refused_exactly; accepts = accepted_exactly; right = read_right; all = read_all; one = read_one; restored = written_right; sound = read_sound }
