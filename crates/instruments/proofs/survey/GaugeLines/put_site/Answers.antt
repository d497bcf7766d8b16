use Rattle.std.proofs.Common.{◌≡◌, ◌+◌, ◌<◌, length, get_or, drop, None, ap, ◌∙◌, arith}
use Rattle.std.specs.Result.{result_ok}
use Rattle.lines.proofs.Pieces.{then, took_then, stops}
use Rattle.instruments.specs.Registers.{site_row}
use Rattle.instruments.specs.Surveys.{gauge_line, site_text}
use Rattle.instruments.proofs.Texts.{gauge_cut, gauge_more, okPart_asked}
use Rattle.instruments.proofs.survey.GaugeLines.put_site.Goals as goal

pub returns-in_err-put_gauge : goal.returns-in_err-put_gauge
returns-in_err-put_gauge g c =
    let row = site_row (g.G.Gauges.readings c.args.self.now.0.now) c.args.site in
    let n = c.loop-number.number in
    let h : n < length row = omega arith in
    let e : c.ok-shows.result ≡ get_or row n None = c.ok-shows.ensures.value ∙ ap result_ok c.gauge.ensures ∙ okPart_asked row c.args.site n h in
    rw (gauge_cut c.args.site n row h)
    (then c.loop-number.invariant (stops (gauge_line c.args.site n (get_or row n None)) (site_text c.args.site (n + 1) (drop (n + 1) row)) c.from_residual.ensures.0 (rw e at c.in_err-put_gauge.ensures.ended)))

pub loop-number-preserved : goal.loop-number-preserved
loop-number-preserved g c =
    let row = site_row (g.G.Gauges.readings c.args.self.now.0.now) c.args.site in
    let n = c.loop-number.number in
    let h : n < length row = omega arith in
    let e : c.ok-shows.result ≡ get_or row n None = c.ok-shows.ensures.value ∙ ap result_ok c.gauge.ensures ∙ okPart_asked row c.args.site n h in
    rw (gauge_more c.args.site n row h) (took_then c.loop-number.invariant (rw e at c.in_ok-put_gauge.ensures.ended))
