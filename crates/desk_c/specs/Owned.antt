-- What a handle owns.
use Rattle.std.specs.Prelude.{Option, None, Some}
use Rattle.std.specs.Box.Ownership.{box_owns}
use Rattle.std.specs.declared.alloc.Global.{Global}
use Rattle.std.specs.contracts.impls.GlobalAllocator.TheImpl as heap_impl
use base.Fml.{Fml, ftrue}
use denote.RawPtr.{Ptr}
use Rattle.desk_c.specs.declared.kept.Kept.{Kept}
use Rattle.desk_c.specs.contracts.kept.Kept as kept

-- nothing, or the block that holds what is kept, and the right to free it
abbrev pub maybe_owns : Global → Ptr → Option Kept → Fml
maybe_owns alloc at None = ftrue
maybe_owns alloc at (Some v) = box_owns (heap_impl.ghosts.dealloc_token alloc) kept.the_row at v
