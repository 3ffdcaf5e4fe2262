-- Replies one after the other.
use Rattle.std.proofs.Common.{◌≡◌, ℕ, List, [], ◌∷◌, ◌++◌, inl, inr, refl, sym, ap, ◌∙◌, append_assoc}
use Rattle.std.proofs.lemmas.List.{append-nil}
use Rattle.nova_outside.specs.History.{Event, Replied, Begins, RepliesInPart, replies}
use Rattle.nova_outside.specs.Replies.{after_replies, in_one, HasReplied, HasRepliedInPart}

pub after_replies-append : (h : List Event) (xs ys : List (List ℕ)) → after_replies h (xs ++ ys) ≡ after_replies (after_replies h xs) ys
after_replies-append h [] ys = refl
after_replies-append h (x ∷ xs) ys = after_replies-append (Replied x ∷ h) xs ys

pub in_one-append : (xs ys : List (List ℕ)) → in_one (xs ++ ys) ≡ in_one xs ++ in_one ys
in_one-append [] ys = refl
in_one-append (x ∷ xs) ys = ap (λ t. x ++ t) (in_one-append xs ys) ∙ sym (append_assoc x (in_one xs) (in_one ys))

pub replied_nothing : (h : List Event) → HasReplied h h []
replied_nothing h = record { pieces = []; only = refl; whole = refl }

pub replied_once : (old new : List Event) (bytes : List ℕ) → new ≡ Replied bytes ∷ old → HasReplied old new bytes
replied_once old new bytes is = record { pieces = bytes ∷ []; only = is; whole = append-nil bytes }

pub replied_both : (a b c : List Event) (xs ys : List ℕ) → HasReplied a b xs → HasReplied b c ys → HasReplied a c (xs ++ ys)
replied_both a b c xs ys one two = record {
  pieces = one.pieces ++ two.pieces;
  only = two.only ∙ ap (λ h. after_replies h two.pieces) one.only ∙ sym (after_replies-append a one.pieces two.pieces);
  whole = in_one-append one.pieces two.pieces ∙ ap (λ t. t ++ in_one two.pieces) one.whole ∙ ap (λ t. xs ++ t) two.whole;
}

pub replies_after : (h : List Event) (xs : List (List ℕ)) → replies (after_replies h xs) ≡ replies h ++ in_one xs
replies_after h [] = sym (append-nil (replies h))
replies_after h (x ∷ xs) = replies_after (Replied x ∷ h) xs ∙ append_assoc (replies h) x (in_one xs)

-- the reply bytes grew by these
pub replies_grow : (old new : List Event) (bytes : List ℕ) → HasReplied old new bytes → replies new ≡ replies old ++ bytes
replies_grow old new bytes is = ap replies is.only ∙ replies_after old is.pieces ∙ ap (λ t. replies old ++ t) is.whole

pub begins_nothing : (bytes : List ℕ) → Begins [] bytes
begins_nothing bytes = (bytes, refl)

pub begins_all : (bytes : List ℕ) → Begins bytes bytes
begins_all bytes = ([], sym (append-nil bytes))

pub begins_more : (front xs ys : List ℕ) → Begins front xs → Begins front (xs ++ ys)
begins_more front xs ys b = (b.0 ++ ys, ap (λ t. t ++ ys) b.1 ∙ append_assoc front b.0 ys)

pub begins_behind : (front xs ys : List ℕ) → Begins front ys → Begins (xs ++ front) (xs ++ ys)
begins_behind front xs ys b = (b.0, ap (λ t. xs ++ t) b.1 ∙ sym (append_assoc xs front b.0))

pub part_nothing : (h : List Event) (bytes : List ℕ) → HasRepliedInPart h h bytes
part_nothing h bytes = record { given = []; front = begins_nothing bytes; replied = replied_nothing h }

pub part_all : (old new : List Event) (bytes : List ℕ) → HasReplied old new bytes → HasRepliedInPart old new bytes
part_all old new bytes is = record { given = bytes; front = begins_all bytes; replied = is }

pub part_front : (old new : List Event) (xs ys : List ℕ) → HasRepliedInPart old new xs → HasRepliedInPart old new (xs ++ ys)
part_front old new xs ys is = record { given = is.given; front = begins_more is.given xs ys is.front; replied = is.replied }

pub part_behind : (a b c : List Event) (xs ys : List ℕ) → HasReplied a b xs → HasRepliedInPart b c ys → HasRepliedInPart a c (xs ++ ys)
part_behind a b c xs ys one two = record {
  given = xs ++ two.given;
  front = begins_behind two.given xs ys two.front;
  replied = replied_both a b c xs two.given one two.replied;
}

-- a call of `reply` that failed
pub part_once : (old new : List Event) (bytes : List ℕ) → RepliesInPart bytes old new → HasRepliedInPart old new bytes
part_once old new bytes (inl same) = record { given = []; front = begins_nothing bytes; replied = record { pieces = []; only = same; whole = refl } }
part_once old new bytes (inr (front, begins, is)) = record { given = front; front = begins; replied = replied_once old new front is }
