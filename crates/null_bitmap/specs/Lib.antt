pub mod Bitmap
pub mod InnerBitmap
