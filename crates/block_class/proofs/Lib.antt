pub mod SignatureLemmas
pub mod SameLemmas
pub mod GroupLemmas
pub mod MemberLemmas
pub mod TableLemmas
