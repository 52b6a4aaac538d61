-- `reserve` asks the allocator for an array, makes empty places of its room, and keeps the right to free it. Assumes `Logic`.
use Rattle.std.proofs.Common.{◌≡◌, ℕ, true, false, List, [], ◌∷◌, ◌++◌, ◌*◌, ◌<◌, ◌^◌, Bool, replicate, refl, sym, ap, subst, arith, w64, lit<}
use lib.ListN.{length-replicate}
use mir.Syntax.{Body, Fn, ty_array}
use mir.MapTy.{inst_fn}
use mir.Val.{Val, vint, vptr, vstruct, vcons, vnil, WT}
use base.Logic.{SProp, emp}
use base.Fml.{Incl-trans, ftrue, flft}
use prog.Memory.{align, capped}
use prog.Capped.{capped_fits}
use prog.Wp.{Env, Wp, WpFn, after_seq, at_return}
use types.Kit.{Post as After, any_q, Sq, ‵, raw, ◌⊛◌, some, given, later, prop, at_ret, ◌$◌, ◌∵◌, !, qed, by, move, keep, drop, use0, use1, use2, split, split3, join, pick, learn, await, regoal, fsplit, fjoin}
use types.Part.{whole, agg}
use types.Match.{live, vrt, in_variant}
use types.Run.{stop, fld, lit, size_word, align_word, no_more, and_then, of_opd, bin, first, blocks, switches_on, exec, returns, enter}
use types.ByLocal.{alloc_all, pass_all, free_all, look_at, get, get_in, get_tag, is, sets, sets_last, lands_as, lands_last, env}
use contract.BorrowLft.{◌⊑◌}
use contract.Monad.{fact, fact_i}
use contract.Running.{tables, tables_of}
use denote.Exit.{yes}
use denote.Laws.{Is}
use denote.Builtin.{RefOf, usize}
use denote.RattleType.{RattleType, owns}
use denote.RawPtr.{block_ptr}
use denote.Signature.{plain, types_at}
use denote.Steps.{nothing, heard, owned}
use denote.Struct.Struct.{Struct, Struct-Makes}
use denote.Struct.Declared as Declared
use denote.Struct.Tuple.{Tuple}
use denote.Triple.Call.{calls_at, calls_at_last}
use denote.Triple.Walked.{Stays, stay_dropped, walk_of, Goes-dropped}
use Rattle.std.specs.Prelude.{IfOk, Ok, Err}
use Rattle.std.specs.Vec.Ownership.{FitsInBlock}
use Rattle.std.proofs.raw_atomic.Walks.{proved_at, leaves}
use Rattle.core.specs.Mem.Slots.{slots_ptr, slots_len}
use Rattle.core.specs.contracts.result.Result as RS
use Rattle.core.specs.contracts.alloc.AllocError as AE
use Rattle.core.proofs.atomic.Steps.{fm}
use Rattle.core.proofs.alloc.Calls.{Al, Answer-typed, Takes, at_takes, Answered, Takes-goes, Takes-gives, answers}
use Rattle.core.proofs.slots.Bodies.{after, head, arm_body}
use Rattle.core.proofs.slots.Opens.{row_val}
use Rattle.core.proofs.slots.Runs.{of_space}
use Rattle.core.proofs.slots.Leases.{uncapped, block_ty, block_size, block_align, args, P}
use Rattle.core.proofs.slots.Slots.from_raw_parts.Met as callee
use Rattle.std_alloc.proofs.Pairs.{pair_of, pair_val}
use Rattle.std_alloc.proofs.RawLayout.{as_written}
use Rattle.std_alloc.proofs.ResultValues.{ok_of, err_of}
use Rattle.std_alloc.proofs.VecSteps.El.{El, elτ, R, sz}
use Rattle.std_alloc.proofs.vec.Blocks.{el, all}
use Rattle.std_alloc.proofs.vec.Spares.{Row, From, at_from, Made, from_goes, from_gives, row_Typed}
use Rattle.raw_store.proofs.Deeds.{deed_val, Dd, mark_own, mark_made}
use Rattle.raw_store.specs.contracts.memory.reserve as F
use Rattle.raw_store.specs.contracts.memory.reserve.Key.{name as #self}
use Rattle.raw_store.proofs.memory.reserve.Statement.{statement}
use Rattle.raw_store.proofs.memory.reserve.Code as code

pub reserve_spec : {M : Type 1} → statement M
unfolding tables_of
reserve_spec 𝓤 𝓛 𝓜 𝓡 wired X Y LX LY g d dd met md =
    let H = 𝓛.H in
    let Z : Al = record { row = Y; laws = LY; g = g; d = d; drops = dd } in
    let E : El = record { row = X; laws = LX; al = Z } in
    let T = F.ended X Y g d dd in
    let c = F.clauses X Y g d dd 𝓛 𝓜.mem 𝓡.returns in
    let handle = RefOf (0 ∷ []) tt (plain (λ _. P (el E) Z)) (λ _. tt) in
    let stays : Stays T.signature.params T.kept = (stay_dropped handle yes, (stay_dropped (plain (λ _. usize)) yes, tt)) in
    let C = (tables 𝓤 H 𝓜 𝓡 𝓡.env).C in
    let Λ = (tables 𝓤 H 𝓜 𝓡 𝓡.env).Λ in
    let fn : Fn = inst_fn (args (el E) Z) code.function in
    proved_at 𝓛 T stays c 𝓜 𝓡 (Goes-dropped 𝓛 3 handle yes (λ κs x f. refl), (Goes-dropped 𝓛 3 (plain (λ _. usize)) yes (λ κs x f. refl), tt)) (#self (args (el E) Z)) fn (code.unfolded 𝓤 H 𝓜 𝓡 wired (X, (Y, tt)) d dd) (λ z are.
    let Post : Val → SProp 𝓤 = (walk_of 𝓛 T stays c).post z in
    let κ = z.0.0.0 in let κ₁ = z.0.0.1.0 in let κ₂ = z.0.0.1.1.0 in
    let q = z.0.1.0 in let q₁ = z.0.1.1.0 in let q₂ = z.0.1.1.1.0 in
    let hp : ℕ × ℕ = z.0.3.0.ref_ptr in let a : Z.row.Denot = z.0.3.0.now in let n : ℕ = z.0.3.1.0 in
    let Asks : Type 0 = FitsInBlock (R E) n × X.Denot in
    let Two : RattleType = Tuple (Row E ∷ Dd (el E) Z ∷ []) in
    let Out : RattleType = RS.the_row Two AE.the_row in
    let Says : Out.Denot → Type 0 = λ r. IfOk r (λ p. (slots_len p.0 ≡ n) × (p.1.at ≡ slots_ptr p.0) × (p.1.len ≡ n) × (p.1.alloc ≡ a)) in
    let out : (r : Out.Denot) (v : Val) → Says r → Sq 𝓛 (‵ (Out.own_val r (v ∷ [])) ∷ ‵ (flft κ₁ q₁) ∷ ‵ (flft κ q) ∷ (‵ (flft κ₂ q₂) ⊛ ‵ ftrue) ∷ []) (prop (Post v)) = λ r v said.
    move ! (1 ∷ 3 ∷ []) $ join ! $ move ! (2 ∷ 0 ∷ []) $ join ! $ nothing ! $ nothing ! $ fjoin ! $ nothing ! $ fjoin ! $
    use0 𝓛 (raw (fact 𝓤 (Says r))) (fact_i 𝓤 (Says r) (emp 𝓤) said) $ move ! (2 ∷ 1 ∷ 3 ∷ 0 ∷ []) $
    by ! (leaves 𝓛 T stays c z v r (tt, (tt, tt)) (tt, (tt, tt))) in
    qed 𝓛 (((‵ (flft κ q) ⊛ ‵ (flft κ₁ q₁) ⊛ ‵ (flft κ₂ q₂) ⊛ ‵ ftrue) ⊛ ‵ (owns (types_at T.signature.params z.0.0) z.0.3 z.0.4)) ∷ (raw (fact 𝓤 (κ₁ ⊑ X.lives)) ⊛ raw (fact 𝓤 (κ₂ ⊑ Y.lives)) ⊛ raw (fact 𝓤 Asks)) ∷ []) ∵
    move ! (1 ∷ []) $ split3 ! $ heard ! (κ₁ ⊑ X.lives) (λ in₁. heard ! (κ₂ ⊑ Y.lives) (λ in₂. heard ! Asks (λ asked.
    let s : ℕ = sz E in let al : ℕ = capped (align (elτ E)) in
    let small : n * s < 2 ^ 63 = asked.0.0 in let bytes : n * s < 2 ^ 64 = omega arith in
    let fits : n < 2 ^ 64 = are.1.0.1 in
    let xs : List X.Denot = replicate n asked.1 in let fs : List Bool = replicate n false in
    split ! $ split3 ! $ move ! (3 ∷ []) $ fsplit ! $ fsplit ! $ drop ! $ keep ! (0 ∷ 2 ∷ 3 ∷ 4 ∷ []) $
    -- [the handle; its token; T's token; A's token]
    regoal ! (λ (us : List Val). prop (WpFn 𝓤 H C Λ fn us Post)) (λ i. are.0.0 i ++ (are.1.0.0 i ++ [])) refl $
    enter ! C Λ fn (vptr hp.0 hp.1 ∷ vint w64 n ∷ []) Post $ alloc_all ! (λ l. pass_all ! refl ((tt, tt), ((tt, record { fits = fits }), tt)) $
    let En : Env 𝓤 H = env fn.locals l in
    let both : Body = head (after 4 fn.body) in
    let Then : After 𝓤 H = any_q (after_seq 𝓤 H (Wp 𝓤 H C Λ En (after 5 fn.body) (at_return 𝓤 H En Post)) (at_return 𝓤 H En Post)) in
    let y : (Takes Z 𝓛 𝓜.mem 𝓡.returns).Ghost = at_takes Z 𝓛 𝓜.mem 𝓡.returns κ q hp a (n * s) al (block_ty (el E) n) in
    sets ! (of_opd ! (get ! refl)) refl (tt, tt) $ sets ! (of_opd ! (get ! refl)) refl (tt, record { fits = fits }) $
    sets ! (is ! (bin ! (get ! refl) (size_word !) (record { fits = subst (λ (k : ℕ). k < 2 ^ 64) (sym (uncapped n s bytes)) bytes })) (ap (vint w64) (uncapped n s bytes))) refl (tt, record { fits = bytes }) $
    use2 𝓛 (raw ((Takes Z 𝓛 𝓜.mem 𝓡.returns).pre y)) (Takes-goes Z 𝓛 𝓜.mem 𝓡.returns κ q hp a (Incl-trans z.0.2.0 in₂) (n * s) al (block_ty (el E) n) (block_size (el E) n bytes) (block_align (el E) n) bytes (capped_fits (align (elτ E)))) $
    calls_at ! (fm 𝓛 𝓜 𝓡) (Takes Z 𝓛 𝓜.mem 𝓡.returns) (met.allocate dd) y (and_then ! (get ! refl) (and_then ! (get ! refl) (and_then ! (align_word !) (no_more !)))) (λ v.
    use1 𝓛 (later (raw (Answered Z 𝓛 𝓜.mem 𝓡.returns a (block_ty (el E) n) v) ⊛ ‵ (flft κ q))) (Takes-gives Z 𝓛 𝓜.mem 𝓡.returns κ q hp a (n * s) al (block_ty (el E) n) v) $ await ! tt $ split ! $
    answers Z ! 𝓜.mem 𝓡.returns a (block_ty (el E) n) v
    (λ b o e.
    let words : WT (row_val b o n) = (tt, (record { fits = fits }, tt)) in
    let made : Val = pair_val (row_val b o n) deed_val in
    let good : WT (live 0 (vcons made vnil)) = (record { fits = lit< tt }, ((words, ((tt, tt), tt)), tt)) in
    let w = at_from E 𝓛 𝓜.mem 𝓡.returns κ₁ q₁ b o n xs fs in
    lands_as ! e refl (Answer-typed true b o) $ first ! $ switches_on ! (get_tag ! (vrt ! refl (fld ! refl (stop !))) (whole !)) $ exec ! C Λ En (arm_body 0 both) Then $
    sets ! (of_opd ! (get_in ! (vrt ! refl (fld ! refl (stop !))) (in_variant ! 0 0 refl refl (whole !)))) refl (tt, tt) $
    first ! $ blocks ! $ sets ! (of_opd ! (get ! refl)) refl (tt, tt) $ sets ! (of_opd ! (get ! refl)) refl (tt, tt) $ sets ! (of_opd ! (get ! refl)) refl (tt, record { fits = fits }) $
    -- [the room; the right to free it; the handle's token; T's token; A's token]
    as_written ! (ty_array (elτ E) n) b o $ use1 𝓛 (‵ (all E b o xs fs)) (of_space (el E) 𝓛 b o n xs (length-replicate n asked.1)) $ move ! (0 ∷ 3 ∷ []) $
    use2 𝓛 (raw ((From E 𝓛 𝓜.mem 𝓡.returns).pre w)) (from_goes E 𝓛 𝓜.mem 𝓡.returns κ₁ q₁ b o n xs fs in₁ (sym (length-replicate n asked.1)) (sym (length-replicate n false)) fits small) $
    calls_at_last ! (fm 𝓛 𝓜 𝓡) (From E 𝓛 𝓜.mem 𝓡.returns) (callee.met 𝓤 𝓛 𝓜 𝓡 (code.calls-core::slots::Slots::from_raw_parts 𝓡.env wired) X LX) w (and_then ! (get ! refl) (and_then ! (get ! refl) (no_more !))) (λ u.
    use1 𝓛 (later (some (λ (r : (Row E).Denot). given ((u ≡ row_val b o n) × Made E 𝓛 𝓜.mem 𝓡.returns κ₁ q₁ b o n xs fs r) (‵ ((Row E).own_val r (row_val b o n ∷ [])) ⊛ ‵ (flft κ₁ q₁))))) (from_gives E 𝓛 𝓜.mem 𝓡.returns κ₁ q₁ b o n xs fs u) $
    await ! tt $ pick ! (λ r. learn ! (λ got. split ! $
    let deed : (Dd (el E) Z).Denot = record { mark = record {}; at = block_ptr b o; len = n; alloc = a } in
    lands_last ! refl (row_Typed E u b o n got.0 fits) $ exec ! C Λ En (after 2 (arm_body 0 both)) Then $
    -- [the row; T's token; the right to free; the handle's token; A's token]
    sets ! (is ! (of_opd ! (get ! refl)) got.0) refl (tt, words) $
    sets ! (agg ! (no_more !)) refl (tt, tt) $ sets ! (agg ! (and_then ! (get ! refl) (no_more !))) refl (tt, (tt, tt)) $
    sets ! (agg ! (and_then ! (get ! refl) (and_then ! (get ! refl) (no_more !)))) refl (tt, (words, ((tt, tt), tt))) $
    sets_last ! (agg ! (and_then ! (lit ! tt) (and_then ! (get ! refl) (no_more !)))) refl (tt, good) $
    exec ! C Λ En (after 5 fn.body) (at_ret En Post) $ sets ! (of_opd ! (get ! refl)) refl (tt, good) $ returns ! (look_at ! 0 refl) $ free_all ! refl $
    move ! (2 ∷ []) $ use0 𝓛 (‵ (mark_own (el E) Z (deed_val ∷ []))) (mark_made (el E) Z 𝓛) $ fjoin ! $ move ! (1 ∷ 0 ∷ []) $
    use2 𝓛 (‵ (Two.own_val (r, deed) (made ∷ []))) (pair_of 𝓛 (Row E) (Dd (el E) Z) r deed (row_val b o n) deed_val) $
    use1 𝓛 (‵ (Out.own_val (Ok (r, deed)) (live 0 (vcons made vnil) ∷ []))) (ok_of 𝓛 Two AE.the_row (r, deed) made) $
    out (Ok (r, deed)) (live 0 (vcons made vnil)) (got.1.1, sym got.1.0, refl, refl)))))
    (λ e.
    let Refusal : RattleType = Struct (Declared.shape AE.the_type) in
    let none : Val = live 1 (vcons (vstruct vnil) vnil) in
    let good : WT none = (record { fits = lit< tt }, (tt, tt)) in
    lands_as ! e refl (Answer-typed false 0 0) $ first ! $ switches_on ! (get_tag ! (vrt ! refl (fld ! refl (stop !))) (whole !)) $ exec ! C Λ En (arm_body 1 both) Then $
    sets ! (of_opd ! (get_in ! (vrt ! refl (fld ! refl (stop !))) (in_variant ! 1 0 refl refl (whole !)))) refl (tt, tt) $ sets ! (of_opd ! (get ! refl)) refl (tt, tt) $
    sets_last ! (agg ! (and_then ! (lit ! tt) (and_then ! (get ! refl) (no_more !)))) refl (tt, good) $
    exec ! C Λ En (after 5 fn.body) (at_ret En Post) $ sets ! (of_opd ! (get ! refl)) refl (tt, good) $ returns ! (look_at ! 0 refl) $ free_all ! refl $
    owned ! Refusal (Is Refusal) (Struct-Makes 𝓛 (Declared.shape AE.the_type) tt) tt (vstruct vnil ∷ []) (tt, (refl, tt)) $
    use1 𝓛 (‵ (Out.own_val (Err (record {})) (none ∷ []))) (err_of 𝓛 Two AE.the_row (record {}) (vstruct vnil)) $
    move ! (0 ∷ 2 ∷ 1 ∷ []) $ out (Err (record {})) none tt)))))))
