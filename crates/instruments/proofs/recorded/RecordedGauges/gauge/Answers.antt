use Rattle.std.proofs.Common.{◌≡◌, List, sym, ap, ◌∙◌, arith}
use Rattle.std.specs.Option.{ok_or}
use Rattle.lines.specs.declared.refusal.RegisterFault.TheVariants.{Silent}
use Rattle.instruments.specs.declared.record.Row.{Row}
use Rattle.instruments.specs.Records.{first}
use Rattle.instruments.specs.Grid.{recorded_asked}
use Rattle.instruments.proofs.Wide.{heard_is}
use Rattle.instruments.proofs.Firsts.{first_is}
use Rattle.instruments.proofs.recorded.RecordedGauges.gauge.Goals as goal

pub returns : goal.returns
returns c =
    let rows = c.args.self.now.rows.items in
    let s = c.args.site in
    let g = c.args.number in
    let e : c.find.result ≡ first rows s g = c.find.ensures ∙ first_is c.as_slice.result.now s g ∙ ap (λ (l : List Row). first l s g) c.as_slice.ensures.value in
    c.ok_or.ensures.value ∙ ap (λ o. ok_or o (Silent s g)) e ∙ sym (recorded_asked rows s g (omega arith) (omega arith) ∙ heard_is s g (first rows s g))
