use Rattle.std.proofs.Common.{sym}
use Rattle.rv_dot.proofs.Places.{place_of-found, place_of-between, rises}
use Rattle.rv_dot.proofs.numbering.place_among.Goals as goal

pub returns-in-Ok : goal.returns-in-Ok
returns-in-Ok c = record {
  value = sym (place_of-found c.args.ascending.now c.args.name.now c.in-Ok.place c.args.name c.requires c.in-Ok.ensures.bound (c.in-Ok.ensures.position c.args.name));
  within = c.in-Ok.ensures.bound;
}

pub returns-in-Err : goal.returns-in-Err
returns-in-Err c = record {
  value = sym (place_of-between c.args.ascending.now c.args.name.now c.in-Err.field-0 (c.in-Err.ensures.position (rises c.args.ascending.now c.args.name.now c.requires)));
  within = tt;
}
