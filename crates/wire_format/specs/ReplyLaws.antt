-- Replies are read as they were spelled.
use Rattle.std.proofs.Common.{◌≡◌, ℕ, List, ◌++◌, refl, ap}
use Rattle.std.specs.List.{AllByRecursion}
use Rattle.packet_bodies.specs.declared.ReplyBody.{ReplyBody}
use Rattle.packet_bodies.specs.declared.ReplyBody.TheVariants as replies
use Rattle.field_reader.specs.Reads.{found, made}
use Rattle.wire_format.specs.Codec.{IsCodec}
use Rattle.wire_format.specs.CodecLaws.{before_is, made_of_is, nothing_is, IsRow, row_is, tagged_is, optional_is}
use Rattle.wire_format.specs.NumberLaws.{number32_is, number64_is}
use Rattle.wire_format.specs.ListLaws.{text_is}
use Rattle.wire_format.specs.NameLaws.{errno_is}
use Rattle.wire_format.specs.ObjectLaws.{path_is, grant_is, flushed_is, target_is}
use Rattle.wire_format.specs.Replies.{opened_reply, value_reply, reply_shape, reply_rows, reply}

pub opened_reply_is : IsCodec opened_reply
opened_reply_is = made_of_is (before_is target_is (before_is (optional_is grant_is) number32_is))
    (λ p. record { object = p.0; grant = p.1.0; size = p.1.1 })
    (λ r. (r.object, (r.grant, r.size)))
    (λ r. refl) (λ p. refl)

pub value_reply_is : IsCodec value_reply
value_reply_is = made_of_is (before_is number64_is (before_is number64_is text_is))
    (λ p. record { first = p.0; second = p.1.0; bytes = p.1.1 })
    (λ r. (r.first, (r.second, r.bytes)))
    (λ r. refl) (λ p. refl)

reply_again : (value : ReplyBody) (rest : List ℕ) → (reply_shape value).Fits → reply.read ((reply_shape value).spelled ++ rest) ≡ found value rest
reply_again replies.Done rest fits = refl
reply_again (replies.Here x) rest fits = ap (made {B = ReplyBody} replies.Here) (path_is.again x rest fits)
reply_again (replies.Refused x) rest fits = ap (made {B = ReplyBody} replies.Refused) (errno_is.again x rest fits)
reply_again (replies.Redirect x) rest fits = ap (made {B = ReplyBody} replies.Redirect) (path_is.again x rest fits)
reply_again (replies.Opened x) rest fits = ap (made {B = ReplyBody} replies.Opened) (opened_reply_is.again x rest fits)
reply_again (replies.Value x) rest fits = ap (made {B = ReplyBody} replies.Value) (value_reply_is.again x rest fits)
reply_again (replies.Again x) rest fits = ap (made {B = ReplyBody} replies.Again) (grant_is.again x rest fits)
reply_again (replies.Block x y) rest fits = ap (made {B = ReplyBody} (λ p. replies.Block p.0 p.1)) ((before_is number32_is text_is).again (x, y) rest fits)
reply_again (replies.Flushed x) rest fits = ap (made {B = ReplyBody} replies.Flushed) (flushed_is.again x rest fits)
reply_again (replies.Moved x y) rest fits = ap (made {B = ReplyBody} (λ p. replies.Moved p.0 p.1)) ((before_is (optional_is grant_is) number32_is).again (x, y) rest fits)
reply_again (replies.Page x) rest fits = ap (made {B = ReplyBody} replies.Page) (text_is.again x rest fits)
reply_again replies.Gone rest fits = refl

reply_rows_are : AllByRecursion (IsRow reply_shape) reply_rows
reply_rows_are = (
  row_is reply_shape 1 nothing_is (λ x. replies.Done) (λ x. refl) (λ x h. h),
  (
    row_is reply_shape 2 path_is replies.Here (λ x. refl) (λ x h. h),
    (
      row_is reply_shape 3 errno_is replies.Refused (λ x. refl) (λ x h. h),
      (
        row_is reply_shape 4 path_is replies.Redirect (λ x. refl) (λ x h. h),
        (
          row_is reply_shape 5 opened_reply_is replies.Opened (λ x. refl) (λ x h. h),
          (
            row_is reply_shape 6 value_reply_is replies.Value (λ x. refl) (λ x h. h),
            (
              row_is reply_shape 7 grant_is replies.Again (λ x. refl) (λ x h. h),
              (
                row_is reply_shape 8 (before_is number32_is text_is) (λ p. replies.Block p.0 p.1) (λ x. refl) (λ x h. h),
                (
                  row_is reply_shape 9 flushed_is replies.Flushed (λ x. refl) (λ x h. h),
                  (
                    row_is reply_shape 10 (before_is (optional_is grant_is) number32_is) (λ p. replies.Moved p.0 p.1) (λ x. refl) (λ x h. h),
                    (
                      row_is reply_shape 11 text_is replies.Page (λ x. refl) (λ x h. h),
                      (
                        row_is reply_shape 12 nothing_is (λ x. replies.Gone) (λ x. refl) (λ x h. h),
                        tt,
                      ),
                    ),
                  ),
                ),
              ),
            ),
          ),
        ),
      ),
    ),
  ),
)

pub reply_is : IsCodec reply
reply_is = tagged_is reply_shape reply_rows reply_again reply_rows_are
