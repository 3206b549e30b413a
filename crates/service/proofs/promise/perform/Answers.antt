use Rattle.std.proofs.Common.{vec_items}
use Rattle.search.specs.Views.{view}
use Rattle.service.specs.Promises.{vectors, Made}
use Rattle.service.proofs.Given.{run_within, run_rings}
use Rattle.service.proofs.Openings.{opened_run}
use Rattle.service.proofs.promise.perform.Goals as goal

pub rings_of-requires-clause-given : goal.rings_of-requires-clause-given
rings_of-requires-clause-given g c =
    let p = c.args.polynomial in
    let v = view c.in_ok-opened.opened in
    let answers = vec_items c.in_ok-search.search in
    let obeys = opened_run p v c.in_ok-opened.ensures.value.1 c.args.calls.now answers c.in_ok-search.ensures in
    rw (c.cells-cells.ensures, c.as_slice.ensures.value) (run_within p v.cells c.args.calls.now answers obeys)

pub returns-clause-kept : goal.returns-clause-kept
returns-clause-kept g c =
    let p = c.args.polynomial in
    let v = view c.in_ok-opened.opened in
    let opened = c.in_ok-opened.ensures.value in
    let answers = vec_items c.in_ok-search.search in
    let rings = vec_items c.in_ok-rings.rings in
    let obeys = opened_run p v opened.1 c.args.calls.now answers c.in_ok-search.ensures in
    let made : Made v.cells (vectors answers) rings = rw (← c.cells-cells.ensures, ← c.as_slice.ensures.value) c.in_ok-rings.ensures in
    record {
      accepted = opened.0;
      cells = v.cells;
      degree = opened.1.degree;
      search = obeys;
      rig = c.in_ok-rig.ensures;
      rings = run_rings p v.cells c.args.calls.now answers rings obeys made;
    }
