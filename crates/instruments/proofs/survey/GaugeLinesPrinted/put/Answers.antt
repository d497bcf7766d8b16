use Rattle.std.proofs.Common.{◌+◌, ◌<◌, length, drop, arith}
use Rattle.lines.proofs.Pieces.{then, took_then, stops}
use Rattle.instruments.specs.Registers.{site_row}
use Rattle.instruments.specs.Surveys.{site_text, sites_text}
use Rattle.instruments.proofs.Texts.{site_cut, site_more}
use Rattle.instruments.proofs.survey.GaugeLinesPrinted.put.Goals as goal

pub returns-in_err-put_site : goal.returns-in_err-put_site
returns-in_err-put_site g c =
    let rows = g.G.Gauges.readings c.args.self.now.0.now in
    let s = c.loop-site.site in
    let h : s < length rows = omega arith in
    rw (site_cut s rows h)
    (then c.loop-site.invariant (stops (site_text s 0 (site_row rows s)) (sites_text (s + 1) (drop (s + 1) rows)) c.from_residual.ensures.0 c.in_err-put_site.ensures.ended))

pub loop-site-preserved : goal.loop-site-preserved
loop-site-preserved g c =
    let rows = g.G.Gauges.readings c.args.self.now.0.now in
    let h : c.loop-site.site < length rows = omega arith in
    rw (site_more c.loop-site.site rows h) (took_then c.loop-site.invariant c.in_ok-put_site.ensures.ended)
