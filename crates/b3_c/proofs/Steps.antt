-- What the walks cite.
pub use Rattle.std.proofs.Common.{◌≡◌, ℕ, ◌+◌, ◌^◌, ◌<◌, ◌≤◌, ◌*◌, List, [], ◌∷◌, ◌++◌, length, refl, sym, ap, ◌∙◌, arith, lit<, w8, w64, Bor, MutBor}
pub use Rattle.std.proofs.raw_atomic.Walks.{proved}
pub use base.Fraction.{full_share}
pub use base.Logic.{SProp, ent, sep, ex, id⊢}
pub use base.Fml.{Fml, Lft, Share, ftrue, fsep, fex, fdead, flft, flent, fres, Incl-refl}
pub use mir.Syntax.{named}
pub use mir.Val.{Val, vunit, vint, vptr}
pub use prog.Wp.{WpFn}
pub use contract.Monad.{fact}
pub use contract.Running.{tables}
pub use types.Logic.{Logic, sem}
pub use types.Kit.{‵, raw, ◌⊛◌, some, later, prop, at_ret, Sq, ◌$◌, ◌∵◌, !, qed, by, done, move, keep, drop, use0, use1, use2, use3, split, join, fsplit, fsplit3, fjoin, fpick, fpack, feq_i, feq_l, pick, show, await, rewrite, regoal, suffices, frame, group}
pub use types.Run.{enter, of_opd, lit, unit_lit, addr, init, load, look, store, stop, no_more, and_then, assigns, first, blocks, exec, returns, returns_within, well_typed}
pub use types.ByLocal.{alloc_all, pass_all, free_all, look_at, get, through, sets, lands_as, env}
pub use types.Tokens.{lft_new, lft_end, lent_back}
pub use types.SemTy.{Body}
pub use denote.Builtin.{u8, u64, unit}
pub use denote.Exit.{yes}
pub use denote.Laws.{Is, shows}
pub use denote.Memory.{part_at, mem}
pub use denote.RattleType.{RattleType}
pub use denote.Plain.{uint_vals, uint_Tells}
pub use denote.RawPtr.{Ptr, RawPtr, block_ptr, ptr_val, lies_at, room_at, in_a_block, rawptr_vals, rawptr_Tells}
pub use denote.Ref.{MutRef, ShrRef}
pub use denote.Slice.{ShrSlice, MutSlice, slice_val, shr_slice_vals, shr_slice_Tells, mut_slice_vals, mut_slice_Tells}
pub use denote.Lend.{lends_ref, ref_back, lends_shr}
pub use denote.Signature.{plain}
pub use denote.Steps.{nothing, heard, peeks, only, owned}
pub use denote.Triple.Call.{calls_at}
pub use denote.Triple.Clauses.{lasts}
pub use denote.Triple.Entry.{on_entry}
pub use denote.Triple.Spec.{triple_of}
pub use denote.Triple.Walked.{Stays, walk_of, says, stay_dropped, gave_slice, Goes-dropped, Goes-gave_slice, ends_at}
pub use denote.Triple.Table.{framed}
pub use Rattle.b3_hash.specs.contracts.Hasher.{the_row as HasherRow}
pub use Rattle.b3_hash.specs.Hashers.{HasherState}
