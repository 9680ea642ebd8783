-- `text::is_android` meets its contract: the namespace is plain in either encoding, and its own text.
use Rattle.text.proofs.Plains.{known-android, is_text-android, known-android-utf16, is_text-android-utf16}
use Rattle.text.proofs.is_android.Goals as goal

pub same_part-requires : goal.same_part-requires
same_part-requires c = (c.find-f.ensures.inside, known-android-utf16)

pub returns-then-h : goal.returns-then-h
returns-then-h c = is_text-android-utf16 c.same_part.ensures c.find-f.ensures.same

pub same_part-requires-2 : goal.same_part-requires-2
same_part-requires-2 c = (c.find-f.ensures.inside, known-android)

pub returns : goal.returns
returns c = is_text-android c.same_part-2.ensures c.find-f.ensures.same
