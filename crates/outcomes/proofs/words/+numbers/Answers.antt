use Rattle.std.proofs.Common.{rules, ◌++◌, ◌≡◌, [], ◌∷◌, List, codes, drop, get_or, pos}
use Rattle.std.specs.Fmt.{signed_decimal}
use Rattle.outcomes.specs.Words.{behind_dots}
use Rattle.outcomes.proofs.Fronts.{cut_first, both_written, behind_is, rest_is}
use Rattle.outcomes.proofs.words.+numbers.Goals as goal

pub write_behind-returns-in_default : goal.write_behind-returns-in_default
write_behind-returns-in_default g t c =
    let zs = c.args.numbers.now in
    behind_is _ _ zs _ c.in-len1-up.len_at_least (cut_first _ _ (codes ".") (signed_decimal (get_or zs 0 (pos 0)) ++ behind_dots (drop 1 zs)) _ c.in_default.ensures)

pub write_behind-returns-in-Ok : goal.write_behind-returns-in-Ok
write_behind-returns-in-Ok g t c =
    let zs = c.args.numbers.now in
    behind_is _ _ zs _ c.in-len1-up.len_at_least (both_written _ _ _ (codes ".") (signed_decimal (get_or zs 0 (pos 0)) ++ behind_dots (drop 1 zs)) _ c.in-Ok.ensures.all (rw (rest_is zs) at c.write_numbers.ensures))

pub write_numbers-returns-in-Ok : goal.write_numbers-returns-in-Ok
write_numbers-returns-in-Ok g t c = both_written _ _ _ (signed_decimal c.args.first.now) (behind_dots c.args.rest.now) _ c.in-Ok.ensures.all c.write_behind.ensures

pub write_numbers-returns-in-Err : goal.write_numbers-returns-in-Err
write_numbers-returns-in-Err g t c = cut_first _ _ (signed_decimal c.args.first.now) (behind_dots c.args.rest.now) _ c.in-Err.ensures
