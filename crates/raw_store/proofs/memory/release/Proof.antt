-- `release` makes room of the places, and hands the block back with the deed. Assumes `Logic`.
use Rattle.std.proofs.Common.{◌≡◌, ℕ, List, [], ◌∷◌, ◌++◌, ◌*◌, ◌<◌, ◌^◌, length, refl, sym, ap, ◌∙◌, subst, arith, w64}
use lib.Dec.{T}
use mir.Syntax.{Fn, ty_unit, ty_array}
use mir.MapTy.{inst_fn}
use mir.Val.{Val, vunit, vint, vptr, has_ty, WT}
use base.Logic.{SProp}
use base.Fml.{Incl-trans, ftrue, froom, flft}
use prog.Memory.{align, capped}
use prog.Capped.{capped_fits}
use prog.Wp.{Env, WpFn}
use types.Kit.{‵, raw, ◌⊛◌, given, later, prop, at_ret, ◌$◌, ◌∵◌, !, qed, by, move, keep, drop, use1, use2, use3, split, split3, join, learn, await, regoal, rewrite, fsplit, fsplit3, fjoin, feq_i}
use types.Part.{whole, sub}
use types.Run.{stop, fld, size_word, align_word, unit_lit, no_more, and_then, of_opd, bin, first, blocks, exec, returns, enter}
use types.ByLocal.{alloc_all, pass_all, free_all, look_at, get, get_in, is, sets, lands_as, lands_last, env}
use contract.BorrowLft.{◌⊑◌}
use contract.Monad.{fact}
use contract.Running.{tables, tables_of}
use denote.Exit.{yes, no}
use denote.Builtin.{RefOf}
use denote.RattleType.{owns}
use denote.RawPtr.{Ptr}
use denote.Signature.{plain, types_at}
use denote.Steps.{nothing, heard}
use denote.Triple.Call.{calls_at, calls_at_last}
use denote.Triple.Walked.{Stays, stay_dropped, walk_of, Goes-dropped}
use Rattle.std.proofs.raw_atomic.Walks.{proved_at, leaves}
use Rattle.core.specs.Mem.Slots.{slots_ptr, slots_len, slots_items, slots_filled, slots_counts}
use Rattle.core.proofs.atomic.Steps.{fm}
use Rattle.core.proofs.alloc.Calls.{Al, token, Gives, at_gives, Gives-goes, Gives-Gives, Goes-blank}
use Rattle.core.proofs.slots.Bodies.{after}
use Rattle.core.proofs.slots.Places.{to_room}
use Rattle.core.proofs.slots.Opens.{row_val, row_had, row_made}
use Rattle.core.proofs.slots.Leases.{uncapped, block_ty, block_size, block_align, args, P}
use Rattle.core.proofs.slots.Slots.into_raw_parts.Met as callee
use Rattle.std_alloc.proofs.RawLayout.{as_raw}
use Rattle.std_alloc.proofs.VecSteps.El.{El, elτ, sz}
use Rattle.std_alloc.proofs.vec.Blocks.{el, all}
use Rattle.std_alloc.proofs.vec.Spares.{Row, Into, at_into, Into-goes, Into-gives}
use Rattle.raw_store.proofs.Deeds.{deed_val, Dd, mark_told}
use Rattle.raw_store.specs.contracts.memory.release as F
use Rattle.raw_store.specs.contracts.memory.release.Key.{name as #self}
use Rattle.raw_store.proofs.memory.release.Statement.{statement}
use Rattle.raw_store.proofs.memory.release.Code as code

pub release_spec : {M : Type 1} → statement M
unfolding tables_of
release_spec 𝓤 𝓛 𝓜 𝓡 wired X Y LX LY g d dd met md =
    let H = 𝓛.H in
    let Z : Al = record { row = Y; laws = LY; g = g; d = d; drops = dd } in
    let E : El = record { row = X; laws = LX; al = Z } in
    let T' = F.ended X Y g d dd in
    let c = F.clauses X Y g d dd 𝓛 𝓜.mem 𝓡.returns in
    let handle = RefOf (0 ∷ []) tt (plain (λ _. P (el E) Z)) (λ _. tt) in
    let stays : Stays T'.signature.params T'.kept = (stay_dropped handle yes, (stay_dropped (plain (λ _. Row E)) no, (stay_dropped (plain (λ _. Dd (el E) Z)) no, tt))) in
    let C = (tables 𝓤 H 𝓜 𝓡 𝓡.env).C in
    let Λ = (tables 𝓤 H 𝓜 𝓡 𝓡.env).Λ in
    let fn : Fn = inst_fn (args (el E) Z) code.function in
    proved_at 𝓛 T' stays c 𝓜 𝓡 (Goes-dropped 𝓛 3 handle yes (λ κs x f. refl), (Goes-dropped 𝓛 3 (plain (λ _. Row E)) no (λ κs x f. refl), (Goes-blank 𝓛 3 (plain (λ _. Dd (el E) Z)) no (λ κs x f. tt), tt))) (#self (args (el E) Z)) fn (code.unfolded 𝓤 H 𝓜 𝓡 wired (X, (Y, tt)) d dd) (λ z are.
    let Post : Val → SProp 𝓤 = (walk_of 𝓛 T' stays c).post z in
    let κ = z.0.0.0 in let κ₁ = z.0.0.1.0 in let κ₂ = z.0.0.1.1.0 in
    let q = z.0.1.0 in let q₁ = z.0.1.1.0 in let q₂ = z.0.1.1.1.0 in
    let hp : ℕ × ℕ = z.0.3.0.ref_ptr in let a : Z.row.Denot = z.0.3.0.now in
    let r : (Row E).Denot = z.0.3.1.0 in let deed : (Dd (el E) Z).Denot = z.0.3.1.1.0 in
    let n : ℕ = slots_len r in let s : ℕ = sz E in let al : ℕ = capped (align (elτ E)) in
    let long : n ≡ length (slots_items r) = (slots_counts r).0 in
    let Asks : Type 0 = (deed.at ≡ slots_ptr r) × (deed.len ≡ n) × (deed.alloc ≡ a) in
    qed 𝓛 (((‵ (flft κ q) ⊛ ‵ (flft κ₁ q₁) ⊛ ‵ (flft κ₂ q₂) ⊛ ‵ ftrue) ⊛ ‵ (owns (types_at T'.signature.params z.0.0) z.0.3 z.0.4)) ∷ (raw (fact 𝓤 (κ₁ ⊑ X.lives)) ⊛ raw (fact 𝓤 (κ₂ ⊑ Y.lives)) ⊛ raw (fact 𝓤 Asks)) ∷ []) ∵
    move ! (1 ∷ []) $ split3 ! $ heard ! (κ₁ ⊑ X.lives) (λ in₁. heard ! (κ₂ ⊑ Y.lives) (λ in₂. heard ! Asks (λ asked.
    split ! $ split3 ! $ move ! (3 ∷ []) $ fsplit3 ! $ fsplit ! $ drop ! $
    -- [the handle; the row; the deed; the handle's token; T's token; A's token]
    move ! (2 ∷ []) $ fsplit ! $ fsplit ! $ drop ! $ move ! (0 ∷ 2 ∷ 3 ∷ 4 ∷ 5 ∷ 6 ∷ []) $ move ! (2 ∷ []) $
    row_had (el E) ! r z.0.4.1.0 (λ b o at told fits small. row_made (el E) ! r b o at fits small $
    let bytes : n * s < 2 ^ 64 = omega arith in
    move ! (1 ∷ []) $ rewrite ! 0 (λ (u : Z.row.Denot × ℕ × Ptr). ‵ (token Z u.0 (block_ty (el E) u.1) u.2)) (λ i. (asked.2 i, asked.1 i, (asked.0 ∙ at) i)) refl $
    -- [the right to free; the row; the handle; its token; T's token; A's token]
    regoal ! (λ (us : List Val). prop (WpFn 𝓤 H C Λ fn us Post)) (λ i. are.0.0 i ++ (told i ++ (mark_told (el E) Z z.0.4.1.1.0 are.1.1.0.0 i ++ []))) refl $
    enter ! C Λ fn (vptr hp.0 hp.1 ∷ row_val b o n ∷ deed_val ∷ []) Post $
    alloc_all ! (λ l. pass_all ! refl ((tt, tt), ((tt, (tt, (record { fits = fits }, tt))), ((tt, (tt, tt)), tt))) $
    let En : Env 𝓤 H = env fn.locals l in
    let words : WT (row_val b o n) = (tt, (record { fits = fits }, tt)) in
    let w = at_into E 𝓛 𝓜.mem 𝓡.returns κ₁ q₁ r b o in
    let y : (Gives Z 𝓛 𝓜.mem 𝓡.returns).Ghost = at_gives Z 𝓛 𝓜.mem 𝓡.returns κ q hp a b o (n * s) al (block_ty (el E) n) in
    first ! $ blocks ! $ sets ! (of_opd ! (get ! refl)) refl (tt, words) $
    move ! (1 ∷ 4 ∷ []) $ use2 𝓛 (raw ((Into E 𝓛 𝓜.mem 𝓡.returns).pre w)) (Into-goes E 𝓛 𝓜.mem 𝓡.returns κ₁ q₁ r b o in₁) $
    calls_at ! (fm 𝓛 𝓜 𝓡) (Into E 𝓛 𝓜.mem 𝓡.returns) (callee.met 𝓤 𝓛 𝓜 𝓡 (code.calls-core::slots::Slots::into_raw_parts 𝓡.env wired) X LX) w (and_then ! (get ! refl) (no_more !)) (λ v.
    use1 𝓛 (later (given (v ≡ row_val b o n) (‵ (all E b o (slots_items r) (slots_filled r)) ⊛ ‵ (flft κ₁ q₁)))) (Into-gives E 𝓛 𝓜.mem 𝓡.returns κ₁ q₁ r b o v at) $ await ! tt $ learn ! (λ is_row. split ! $
    lands_as ! is_row refl (tt, words) $
    -- [the places; T's token; the right to free; the handle; its token; A's token]
    sets ! (of_opd ! (get_in ! (fld ! refl (stop !)) (sub ! 0 refl (whole !)))) refl (tt, tt) $
    sets ! (of_opd ! (get_in ! (fld ! refl (stop !)) (sub ! 1 refl (whole !)))) refl (tt, record { fits = fits }) $
    sets ! (of_opd ! (get ! refl)) refl (tt, tt) $
    sets ! (is ! (bin ! (get ! refl) (size_word !) (record { fits = subst (λ (k : ℕ). k < 2 ^ 64) (sym (uncapped n s bytes)) bytes })) (ap (vint w64) (uncapped n s bytes))) refl (tt, record { fits = bytes }) $
    use1 𝓛 (‵ (froom (ty_array (elτ E) (length (slots_items r))) b o)) (to_room (el E) 𝓛 b (slots_items r) (slots_filled r) o (sym (slots_counts r).1 ∙ long)) $
    rewrite ! 0 (λ (k : ℕ). ‵ (froom (ty_array (elτ E) k) b o)) (sym long) refl $ as_raw ! (ty_array (elτ E) n) b o $
    move ! (3 ∷ 4 ∷ []) $ join ! $ move ! (1 ∷ 3 ∷ 0 ∷ []) $
    use3 𝓛 (raw ((Gives Z 𝓛 𝓜.mem 𝓡.returns).pre y)) (Gives-goes Z 𝓛 𝓜.mem 𝓡.returns κ q hp a (Incl-trans z.0.2.0 in₂) b o (n * s) al (block_ty (el E) n) (block_size (el E) n bytes) (block_align (el E) n) bytes (capped_fits (align (elτ E)))) $
    calls_at_last ! (fm 𝓛 𝓜 𝓡) (Gives Z 𝓛 𝓜.mem 𝓡.returns) (met.deallocate dd) y (and_then ! (get ! refl) (and_then ! (get ! refl) (and_then ! (get ! refl) (and_then ! (align_word !) (no_more !))))) (λ u.
    use1 𝓛 (later (given (u ≡ vunit) (‵ (flft κ q)))) (Gives-Gives Z 𝓛 𝓜.mem 𝓡.returns κ q hp a b o (n * s) al (block_ty (el E) n) u) $ await ! tt $ learn ! (λ is_unit.
    lands_last ! refl (subst (λ (x : Val). T (has_ty ty_unit x) × WT x) (sym is_unit) (tt, tt)) $ exec ! C Λ En (after 1 fn.body) (at_ret En Post) $
    sets ! (of_opd ! (unit_lit !)) refl (tt, tt) $ returns ! (look_at ! 0 refl) $ free_all ! refl $
    -- [the handle's token; T's token; A's token]
    move ! (1 ∷ 2 ∷ []) $ join ! $ move ! (1 ∷ 0 ∷ []) $ join ! $ feq_i ! (List Val) (vunit ∷ []) (vunit ∷ []) refl $
    nothing ! $ nothing ! $ fjoin ! $ nothing ! $ fjoin ! $ nothing ! $ fjoin ! $ nothing ! $ move ! (3 ∷ 1 ∷ 2 ∷ 0 ∷ []) $
    keep ! (0 ∷ 1 ∷ 2 ∷ 3 ∷ []) $ by ! (leaves 𝓛 T' stays c z vunit tt (tt, (tt, (tt, tt))) (tt, (tt, (tt, tt))))))))))))))
