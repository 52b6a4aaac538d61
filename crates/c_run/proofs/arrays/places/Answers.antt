use Rattle.std.proofs.Common.{rules, ◌≡◌, ap, ◌∙◌, get_or, pos}
use Rattle.c_run.specs.Arrays.{place_in, all_places}
use Rattle.c_run.proofs.Triples.{places_are}
use Rattle.c_run.proofs.arrays.places.Goals as goal

pub returns-clause-places : goal.returns-clause-places
returns-clause-places c =
    let e0 : c.place.result ≡ place_in (get_or c.args.at 0 (pos 0)) (pos c.args.grid.now.first) = c.place.ensures ∙ ap (λ l. place_in (get_or c.args.at 0 (pos 0)) (pos (get_or l 0 0))) c.extents.ensures.extents in
    let e1 : c.place-2.result ≡ place_in (get_or c.args.at 1 (pos 0)) (pos c.args.grid.now.deep) = c.place-2.ensures ∙ ap (λ l. place_in (get_or c.args.at 1 (pos 0)) (pos (get_or l 1 0))) c.extents.ensures.extents in
    let e2 : c.place-3.result ≡ place_in (get_or c.args.at 2 (pos 0)) (pos c.args.grid.now.wide) = c.place-3.ensures ∙ ap (λ l. place_in (get_or c.args.at 2 (pos 0)) (pos (get_or l 2 0))) c.extents.ensures.extents in
    c.all_three.ensures ∙ ap (λ p. all_places p c.place-2.result c.place-3.result) e0 ∙ ap (λ p. all_places (place_in (get_or c.args.at 0 (pos 0)) (pos c.args.grid.now.first)) p c.place-3.result) e1
    ∙ ap (λ p. all_places (place_in (get_or c.args.at 0 (pos 0)) (pos c.args.grid.now.first)) (place_in (get_or c.args.at 1 (pos 0)) (pos c.args.grid.now.deep)) p) e2
    ∙ places_are c.args.at (pos c.args.grid.now.first) (pos c.args.grid.now.deep) (pos c.args.grid.now.wide) (search rules)
