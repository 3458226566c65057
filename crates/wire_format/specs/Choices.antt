-- How choices of a few are spelled: each has a number.
use Rattle.std.specs.Prelude.{ℕ, Bool, true, false, List, [], ◌∷◌}
use Rattle.packet_bodies.specs.declared.NameOp.{NameOp}
use Rattle.packet_bodies.specs.declared.NameOp.TheVariants as ops
use Rattle.packet_bodies.specs.declared.FileOp.{FileOp}
use Rattle.packet_bodies.specs.declared.FileOp.TheVariants as files
use Rattle.sprite_ids.specs.declared.CallKind.{CallKind}
use Rattle.sprite_ids.specs.declared.CallKind.TheVariants as kinds
use Rattle.sprite_ids.specs.declared.AskKind.{AskKind}
use Rattle.sprite_ids.specs.declared.AskKind.TheVariants as asks
use Rattle.packet_bodies.specs.declared.CarriedMode.{CarriedMode}
use Rattle.packet_bodies.specs.declared.CarriedMode.TheVariants as modes
use Rattle.wire_format.specs.Codec.{Codec, numbered}

abbrev pub name_op_number : NameOp → ℕ
name_op_number ops.Walk = 1
name_op_number ops.Stat = 2
name_op_number ops.Mkdir = 3
name_op_number ops.Rmdir = 4
name_op_number ops.Unlink = 5
name_op_number ops.Rename = 6
name_op_number ops.List = 7
name_op_number ops.Chdir = 8

abbrev pub name_ops : List NameOp
name_ops = ops.Walk ∷ ops.Stat ∷ ops.Mkdir ∷ ops.Rmdir ∷ ops.Unlink ∷ ops.Rename ∷ ops.List ∷ ops.Chdir ∷ []

abbrev pub name_op : Codec NameOp
name_op = numbered name_op_number name_ops

abbrev pub file_op_number : FileOp → ℕ
file_op_number files.Read = 1
file_op_number files.Write = 2
file_op_number files.Size = 3
file_op_number files.Seek = 4
file_op_number files.Append = 5

abbrev pub file_ops : List FileOp
file_ops = files.Read ∷ files.Write ∷ files.Size ∷ files.Seek ∷ files.Append ∷ []

abbrev pub file_op : Codec FileOp
file_op = numbered file_op_number file_ops

abbrev pub call_kind_number : CallKind → ℕ
call_kind_number kinds.Recall = 1
call_kind_number kinds.Stop = 2

abbrev pub call_kinds : List CallKind
call_kinds = kinds.Recall ∷ kinds.Stop ∷ []

abbrev pub call_kind : Codec CallKind
call_kind = numbered call_kind_number call_kinds

abbrev pub ask_kind_number : AskKind → ℕ
ask_kind_number asks.Read = 1
ask_kind_number asks.Write = 2
ask_kind_number asks.Ioctl = 3

abbrev pub ask_kinds : List AskKind
ask_kinds = asks.Read ∷ asks.Write ∷ asks.Ioctl ∷ []

abbrev pub ask_kind : Codec AskKind
ask_kind = numbered ask_kind_number ask_kinds

abbrev pub carried_mode_number : CarriedMode → ℕ
carried_mode_number modes.Read = 1
carried_mode_number modes.Write = 2
carried_mode_number modes.Both = 3
carried_mode_number modes.AppendingWrite = 18
carried_mode_number modes.AppendingBoth = 19

abbrev pub carried_modes : List CarriedMode
carried_modes = modes.Read ∷ modes.Write ∷ modes.Both ∷ modes.AppendingWrite ∷ modes.AppendingBoth ∷ []

abbrev pub carried_mode : Codec CarriedMode
carried_mode = numbered carried_mode_number carried_modes

-- whether a file may be cached: 1 On, 2 Off
abbrev pub caching_number : Bool → ℕ
caching_number true = 1
caching_number false = 2

abbrev pub caching : Codec Bool
caching = numbered caching_number (true ∷ false ∷ [])
