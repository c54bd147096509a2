mod Serving
mod Telling
