mod FloatLaws
mod MemberLaws
mod PushLaws
mod TableLaws
mod Worked
