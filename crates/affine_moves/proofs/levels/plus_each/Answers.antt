use Rattle.std.proofs.Common.{rules, ◌<◌, ◌≤◌, ◌+◌, ◌*◌, ◌^◌, length, get_or, pos, arith, refl}
use Rattle.std.specs.Prelude.{Some}
use Rattle.std.proofs.lemmas.Int.{to_z-of_z}
use mir.Val.{SFits}
use mir.Syntax.{w32}
use Rattle.affine_moves.proofs.Summing.{form_at-is, weaker, each-more, each-none, each-end}
use Rattle.affine_moves.proofs.levels.plus_each.Goals as goal

pub loop-i-init : goal.loop-i-init
loop-i-init c = record { rest = refl; small = c.requires.start }

pub plus_multiple-requires : goal.plus_multiple-requires
plus_multiple-requires c = weaker (Some c.loop-i.sum) (2 ^ 63 + c.loop-i.i * 2 ^ 94) (2 ^ 100) (omega arith) c.loop-i.invariant.small

pub returns-in-None : goal.returns-in-None
returns-in-None c =
    let f : SFits w32 (get_or c.args.coefs.now c.loop-i.i (pos 0)) = search rules in
    let l : c.loop-i.i < length c.args.coefs.now = search rules in
    let m : c.loop-i.i < length c.args.levels.now = search rules in
    each-none _ _ _ _ _ c.form_at.result l m (form_at-is _ _ _ m c.form_at.ensures) (simp to_z-of_z at c.in-None.ensures.value) c.loop-i.invariant.rest

pub loop-i-preserved : goal.loop-i-preserved
loop-i-preserved c =
    let f : SFits w32 (get_or c.args.coefs.now c.loop-i.i (pos 0)) = search rules in
    let l : c.loop-i.i < length c.args.coefs.now = search rules in
    let m : c.loop-i.i < length c.args.levels.now = search rules in
    let small = c.in-Some.ensures.small (2 ^ 63 + c.loop-i.i * 2 ^ 94) c.loop-i.invariant.small in
    record {
      rest = each-more _ _ _ _ _ c.form_at.result l m (form_at-is _ _ _ m c.form_at.ensures) _ (simp to_z-of_z at c.in-Some.ensures.value) c.loop-i.invariant.rest;
      small = weaker (Some c.in-Some.more) (2 ^ 63 + c.loop-i.i * 2 ^ 94 + 2 ^ 94) (2 ^ 63 + (c.loop-i.i + 1) * 2 ^ 94) (omega arith) small;
    }

pub returns : goal.returns
returns c =
    let l : length c.args.coefs.now ≤ c.loop-i.i = search rules in
    each-end _ _ _ _ _ l c.loop-i.invariant.rest
