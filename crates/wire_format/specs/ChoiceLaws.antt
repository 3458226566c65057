-- Choices of a few are read as they were spelled.
use Rattle.std.proofs.Common.{◌≡◌, Bool, true, false, nat_eq, [], ◌∷◌, Some, refl}
use Rattle.std.specs.List.{find}
use Rattle.packet_bodies.specs.declared.NameOp.{NameOp}
use Rattle.packet_bodies.specs.declared.NameOp.TheVariants as ops
use Rattle.packet_bodies.specs.declared.FileOp.{FileOp}
use Rattle.packet_bodies.specs.declared.FileOp.TheVariants as files
use Rattle.sprite_ids.specs.declared.CallKind.{CallKind}
use Rattle.sprite_ids.specs.declared.CallKind.TheVariants as kinds
use Rattle.sprite_ids.specs.declared.AskKind.{AskKind}
use Rattle.sprite_ids.specs.declared.AskKind.TheVariants as asks
use Rattle.packet_bodies.specs.declared.CarriedMode.{CarriedMode}
use Rattle.packet_bodies.specs.declared.CarriedMode.TheVariants as modes
use Rattle.wire_format.specs.Codec.{IsCodec}
use Rattle.wire_format.specs.CodecLaws.{numbered_is}
use Rattle.wire_format.specs.Choices.{name_op, name_op_number, name_ops, file_op, file_op_number, file_ops, call_kind, call_kind_number, call_kinds, ask_kind, ask_kind_number, ask_kinds, carried_mode, carried_mode_number, carried_modes, caching, caching_number}

name_op_back : (x : NameOp) → find (λ y. nat_eq (name_op_number y) (name_op_number x)) name_ops ≡ Some x
name_op_back ops.Walk = refl
name_op_back ops.Stat = refl
name_op_back ops.Mkdir = refl
name_op_back ops.Rmdir = refl
name_op_back ops.Unlink = refl
name_op_back ops.Rename = refl
name_op_back ops.List = refl
name_op_back ops.Chdir = refl

pub name_op_is : IsCodec name_op
name_op_is = numbered_is name_op_number name_ops name_op_back

file_op_back : (x : FileOp) → find (λ y. nat_eq (file_op_number y) (file_op_number x)) file_ops ≡ Some x
file_op_back files.Read = refl
file_op_back files.Write = refl
file_op_back files.Size = refl
file_op_back files.Seek = refl
file_op_back files.Append = refl

pub file_op_is : IsCodec file_op
file_op_is = numbered_is file_op_number file_ops file_op_back

call_kind_back : (x : CallKind) → find (λ y. nat_eq (call_kind_number y) (call_kind_number x)) call_kinds ≡ Some x
call_kind_back kinds.Recall = refl
call_kind_back kinds.Stop = refl

pub call_kind_is : IsCodec call_kind
call_kind_is = numbered_is call_kind_number call_kinds call_kind_back

ask_kind_back : (x : AskKind) → find (λ y. nat_eq (ask_kind_number y) (ask_kind_number x)) ask_kinds ≡ Some x
ask_kind_back asks.Read = refl
ask_kind_back asks.Write = refl
ask_kind_back asks.Ioctl = refl

pub ask_kind_is : IsCodec ask_kind
ask_kind_is = numbered_is ask_kind_number ask_kinds ask_kind_back

carried_mode_back : (x : CarriedMode) → find (λ y. nat_eq (carried_mode_number y) (carried_mode_number x)) carried_modes ≡ Some x
carried_mode_back modes.Read = refl
carried_mode_back modes.Write = refl
carried_mode_back modes.Both = refl
carried_mode_back modes.AppendingWrite = refl
carried_mode_back modes.AppendingBoth = refl

pub carried_mode_is : IsCodec carried_mode
carried_mode_is = numbered_is carried_mode_number carried_modes carried_mode_back

caching_back : (x : Bool) → find (λ y. nat_eq (caching_number y) (caching_number x)) (true ∷ false ∷ []) ≡ Some x
caching_back true = refl
caching_back false = refl

pub caching_is : IsCodec caching
caching_is = numbered_is caching_number (true ∷ false ∷ []) caching_back
