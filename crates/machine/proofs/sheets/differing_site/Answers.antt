use Rattle.std.proofs.Common.{◌≡◌, length, sym, ap, ◌∙◌, arith}
use Rattle.calculus.specs.Calls.{differing, sheet_of}
use Rattle.machine.specs.Answers.{shown}
use Rattle.machine.proofs.Sheeted.{differing_on, goes_on, differs_here, more_sites, no_more}
use Rattle.machine.proofs.sheets.differing_site.Goals as goal

pub loop-site-init : goal.loop-site-init
loop-site-init g c =
    let v = shown (g.W.Gauges.readings c.args.works.now) (g.W.Works.settings c.args.works.now) in
    ap (λ S. differing S (sheet_of v)) c.stations-stations.ensures

pub returns-then-not-same_station : goal.returns-then-not-same_station
returns-then-not-same_station g c =
    let S = c.stations-stations.result.now in
    let v = shown (g.W.Gauges.readings c.args.works.now) (g.W.Works.settings c.args.works.now) in
    differs_here S v (g.met.W.Works.level c.args.works.now) c.loop-site.site _ c.loop-site-test.true (sym c.if-not-same_station.ensures) ∙ c.loop-site.invariant

pub loop-site-preserved : goal.loop-site-preserved
loop-site-preserved g c =
    let S = c.stations-stations.result.now in
    let v = shown (g.W.Gauges.readings c.args.works.now) (g.W.Works.settings c.args.works.now) in
    goes_on S v (g.met.W.Works.level c.args.works.now) c.loop-site.site _ c.loop-site-test.true (sym c.if-not-same_station.ensures) ∙ c.loop-site.invariant

pub returns-then-stations-sites : goal.returns-then-stations-sites
returns-then-stations-sites g c =
    let S = c.stations-stations.result.now in
    let v = shown (g.W.Gauges.readings c.args.works.now) (g.W.Works.settings c.args.works.now) in
    let last : length S ≡ c.loop-site.site = omega (arith, c.loop-site.auto.site-end, c.loop-site-test.false) in
    more_sites S v (g.met.W.Works.level c.args.works.now) (length S) (omega arith) (omega (arith, c.if-stations-sites.true, c.sites.ensures)) ∙ ap (differing_on S v) last ∙ c.loop-site.invariant

pub returns-else-stations-sites : goal.returns-else-stations-sites
returns-else-stations-sites g c =
    let S = c.stations-stations.result.now in
    let v = shown (g.W.Gauges.readings c.args.works.now) (g.W.Works.settings c.args.works.now) in
    let last : length S ≡ c.loop-site.site = omega (arith, c.loop-site.auto.site-end, c.loop-site-test.false) in
    no_more S v (g.met.W.Works.level c.args.works.now) (length S) (omega arith) (omega (arith, c.if-stations-sites.false, c.sites.ensures)) ∙ ap (differing_on S v) last ∙ c.loop-site.invariant
